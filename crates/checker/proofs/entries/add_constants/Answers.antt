use Rattle.std.proofs.Common.{[], ◌∷◌, subst}
use Rattle.meaning.specs.Syntax.{constant_tree}
use Rattle.checker.specs.Entries.{Adds, described}
use Rattle.checker.proofs.Entering.{adds_both, adds_none, adds_same, names_more}
use Rattle.checker.proofs.entries.add_constants.Goals as goal

pub loop-constant-init : goal.loop-constant-init
loop-constant-init c = adds_none c.args.entries.now (described c.args.facts.now c.args.symbols.now)

pub loop-constant-preserved : goal.loop-constant-preserved
loop-constant-preserved c =
    let f = described c.args.facts.now c.args.symbols.now in
    let d = c.constant-item.result in
    let one = subst (λ n. Adds c.loop-constant.entries c.add_described.new.entries f (n ∷ [])) c.deref.ensures.value c.in_ok-add_described.ensures in
    adds_same c.args.entries.now c.add_described.new.entries f _ _ (names_more constant_tree (λ x. x.name) c.args.constants.now c.loop-constant.constant-index d c.loop-constant-test.true c.constant-item.is)
    (adds_both c.args.entries.now c.loop-constant.entries c.add_described.new.entries f _ _ c.loop-constant.invariant one)
