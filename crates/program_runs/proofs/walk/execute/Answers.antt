use Rattle.std.proofs.Common.{◌-◌, Ok, ap, refl, sym, ◌∙◌, subst}
use Rattle.std.proofs.lemmas.Result.{err_from_is_err_and}
use Rattle.meaning.specs.Trees.{flat, members_tree, nested}
use Rattle.meaning.specs.Answers.{run_of}
use Rattle.meaning.specs.Execution.{Ran, exec}
use Rattle.storage.specs.Checked.{tree_of, items_in}
use Rattle.storage.specs.Starts.{map_of}
use Rattle.meaning.proofs.Lasting.{leave_variables}
use Rattle.evaluator.specs.Known.{AreStatements}
use Rattle.evaluator.proofs.Parts.{all_statements}
use Rattle.program_runs.specs.Allowed.{IsAllowed}
use Rattle.program_runs.specs.Walk.{Ends, Halts}
use Rattle.program_runs.proofs.Composed.{ends_as}
use Rattle.program_runs.proofs.Unit.{start_is}
use Rattle.program_runs.proofs.walk.execute.Goals as goal

pub walk_list-requires-clause-named : goal.walk_list-requires-clause-named
walk_list-requires-clause-named g c =
    let t = c.args.program.now in
    let is = c.deref.ensures.value ∙ ap (λ u. u.body.items) c.tree-tree.ensures.tree in
    subst (λ ms. AreStatements t (flat (members_tree ms))) (sym is) (all_statements t)

pub walk_list-requires-clause-allowed : goal.walk_list-requires-clause-allowed
walk_list-requires-clause-allowed g c =
    let t = c.args.program.now in
    let is = c.deref.ensures.value ∙ ap (λ u. u.body.items) c.tree-tree.ensures.tree in
    subst (λ ms. IsAllowed t (members_tree ms)) (sym is) (record { kept = c.tree-tree.ensures.kept; leaves = leave_variables (nested t) (nested t) c.tree-tree.ensures.allowed })

pub returns : goal.returns
unfolding run_of
returns g c =
    let told = g.S.Sink.told in
    let t = c.args.program.now in
    let all = items_in t in
    let body = (tree_of t).body in
    let y = c.walk_list in
    let first = start_is t c.starts.result.now c.in_ok-cells.cells c.in_ok-cells.ensures c.starts.ensures.started in
    let is = c.deref.ensures.value ∙ ap (λ u. u.body.items) c.tree-tree.ensures.tree in
    let whole = ap (λ ms. exec all (members_tree ms) (members_tree ms) (map_of t c.in_ok-cells.cells) c.args.turns) is ∙ ap (λ m. exec all body body m c.args.turns) first in
    subst (λ (r : Ran). Ends r (Ok (record { outcome = c.in_ok-outcome.outcome; turns_used = c.args.turns - y.new.turns })) (told c.args.sink.now) (told y.new.sink)) whole (ends_as _ c.args.turns (map_of t y.new.cells) y.new.turns c.in_ok-outcome.outcome (c.args.turns - y.new.turns) (told c.args.sink.now) (told y.new.sink) refl c.in_ok-outcome.ensures.runs)

pub returns-in_err-outcome : goal.returns-in_err-outcome
unfolding run_of
returns-in_err-outcome g c =
    let told = g.S.Sink.told in
    let t = c.args.program.now in
    let all = items_in t in
    let body = (tree_of t).body in
    let y = c.walk_list in
    let first = start_is t c.starts.result.now c.in_ok-cells.cells c.in_ok-cells.ensures c.starts.ensures.started in
    let is = c.deref.ensures.value ∙ ap (λ u. u.body.items) c.tree-tree.ensures.tree in
    let whole = ap (λ ms. exec all (members_tree ms) (members_tree ms) (map_of t c.in_ok-cells.cells) c.args.turns) is ∙ ap (λ m. exec all body body m c.args.turns) first in
    let q = err_from_is_err_and c.from_residual-in_err-outcome.result c.from_residual-in_err-outcome.ensures.1 in
    rw (q.1, q.2) (subst (λ (r : Ran). Halts r.pieces c.in_err-outcome.field-0.0 (told c.args.sink.now) (told y.new.sink)) whole c.in_err-outcome.ensures.runs)
