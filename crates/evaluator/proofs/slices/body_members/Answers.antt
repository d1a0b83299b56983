use Rattle.std.proofs.Common.{◌-◌, take, drop, sym, ap, ◌∙◌, subst}
use Rattle.meaning.specs.Trees.{flat, members_tree}
use Rattle.evaluator.specs.Known.{AreStatements}
use Rattle.evaluator.specs.Slices.{IsSlice}
use Rattle.evaluator.proofs.Parts.{body_slice, body_statements}
use Rattle.evaluator.proofs.slices.body_members.Goals as goal

pub returns-clause-named : goal.returns-clause-named
returns-clause-named c =
    let t = c.args.program.now in
    let many = c.args.to - c.args.from in
    let is = c.deref.ensures.value ∙ ap (λ u. u.body.items) c.tree.ensures.tree in
    subst (λ ms. AreStatements t (flat (members_tree (take many (drop c.args.from ms))))) (sym is) (body_statements t c.args.from many)

pub returns-clause-slice : goal.returns-clause-slice
returns-clause-slice c =
    let t = c.args.program.now in
    let many = c.args.to - c.args.from in
    let is = c.deref.ensures.value ∙ ap (λ u. u.body.items) c.tree.ensures.tree in
    subst (λ ms. IsSlice t (members_tree (take many (drop c.args.from ms)))) (sym is) (body_slice t c.args.from many c.tree.ensures.allowed c.tree.ensures.kept)
