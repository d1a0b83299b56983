use Rattle.std.proofs.Common.{ap, sym, ◌∙◌, subst}
use Rattle.meaning.specs.Trees.{flat, members_tree, nested}
use Rattle.meaning.proofs.Lasting.{leave_variables}
use Rattle.evaluator.specs.Known.{AreStatements}
use Rattle.evaluator.proofs.Parts.{all_statements}
use Rattle.program_runs.specs.Allowed.{IsAllowed}
use Rattle.running_tests.proofs.staged.alone.check.Goals as goal

pub run_at-found-requires-clause-named : goal.run_at-found-requires-clause-named
run_at-found-requires-clause-named g c = λ κs h.
    let t = c.args.program.now in
    let is = c.deref.ensures.value ∙ ap (λ u. u.body.items) c.tree-tree.ensures.tree in
    subst (λ ms. AreStatements t (flat (members_tree ms))) (sym is) (all_statements t)

pub run_at-found-requires-clause-allowed : goal.run_at-found-requires-clause-allowed
run_at-found-requires-clause-allowed g c = λ κs h.
    let t = c.args.program.now in
    let is = c.deref.ensures.value ∙ ap (λ u. u.body.items) c.tree-tree.ensures.tree in
    subst (λ ms. IsAllowed t (members_tree ms)) (sym is) (record { kept = c.tree-tree.ensures.kept; leaves = leave_variables (nested t) (nested t) c.tree-tree.ensures.allowed })
