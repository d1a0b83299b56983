use Rattle.std.proofs.Common.{rules, ◌≡◌, ◌∷◌, true, false, ap, subst}
use Rattle.std.specs.Str.{bytes_eq}
use Rattle.meaning.specs.Scopes.{listed}
use Rattle.meaning.specs.Syntax.{expr_tree, exprs_tree}
use Rattle.compiler.specs.Kinds.{IsDummyKind}
use Rattle.compiler.proofs.Kept.{name_is, here_is, later_is}
use Rattle.compiler.proofs.kinds.+dummy_kind.Goals as goal

pub returns-then-eq : goal.returns-then-eq
returns-then-eq t c =
    let named = name_is (expr_tree c.in-More.first) c.in-Some-Some.dummy (search rules) in
    let kinds : c.args.kinds.now ≡ c.in-Some-Some.kind.now ∷ c.in-Some-Some.others.now = search rules in
    let same : bytes_eq c.args.name.now c.in-Some-Some.dummy.now ≡ true = search rules in
    here_is (listed (exprs_tree c.args.dummies.now)) (listed (exprs_tree c.in-More.rest.value)) (expr_tree c.in-More.first) c.args.kinds.now c.in-Some-Some.others.now c.in-Some-Some.kind.now c.args.name.now c.in-Some-Some.dummy.now (ap (λ x. listed (exprs_tree x)) c.in-More.is) kinds named same

pub returns-else-eq : goal.returns-else-eq
returns-else-eq t c =
    let named = name_is (expr_tree c.in-More.first) c.in-Some-Some.dummy (search rules) in
    let kinds : c.args.kinds.now ≡ c.in-Some-Some.kind.now ∷ c.in-Some-Some.others.now = search rules in
    let other : bytes_eq c.args.name.now c.in-Some-Some.dummy.now ≡ false = search rules in
    let rest = subst (λ x. IsDummyKind (listed (exprs_tree x)) c.in-Some-Some.others.now c.args.name.now c.dummy_kind.result) c.deref.ensures c.dummy_kind.ensures in
    later_is (listed (exprs_tree c.args.dummies.now)) (listed (exprs_tree c.in-More.rest.value)) (expr_tree c.in-More.first) c.args.kinds.now c.in-Some-Some.others.now c.in-Some-Some.kind.now c.args.name.now c.in-Some-Some.dummy.now c.dummy_kind.result (ap (λ x. listed (exprs_tree x)) c.in-More.is) kinds named other rest
