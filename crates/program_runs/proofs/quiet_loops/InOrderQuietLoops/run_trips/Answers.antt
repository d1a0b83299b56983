use Rattle.std.proofs.Common.{FitsSigned, rules, sym, subst, to_z, of_z}
use Rattle.std.specs.Int.{w32}
use Rattle.std.proofs.lemmas.Int.{to_z-of_z}
use Rattle.meaning.specs.declared.ending.Outcome.TheVariants as outcomes
use Rattle.meaning.specs.declared.syntax.Loop.{out-Loop}
use Rattle.meaning.specs.Execution.{exec}
use Rattle.meaning.specs.Syntax.{shape_tree}
use Rattle.meaning.specs.Trees.{members_tree}
use Rattle.storage.specs.Checked.{items_in}
use Rattle.storage.specs.Starts.{map_of}
use Rattle.evaluator.specs.Quiet.{variable_of}
use Rattle.evaluator.specs.Statements.{Leaves}
use Rattle.whole_runs.specs.Trips.{trips_in}
use Rattle.whole_runs.proofs.Advancing.{several_none}
use Rattle.program_runs.proofs.quiet_loops.InOrderQuietLoops.run_trips.Goals as goal

pub returns-then-done-eq0-clause-leaves : goal.returns-then-done-eq0-clause-leaves
returns-then-done-eq0-clause-leaves c = λ first.
    let p = c.args.program.now in
    let l = c.args.repeated.now in
    let m = map_of p c.args.cells.now in
    let t = c.args.turns.now in
    subst (λ n. Leaves (trips_in p l first c.args.remaining.span.step n m t) t m t outcomes.Normal) (sym c.if-done-eq0.true) (several_none (exec (items_in p)) (out-Loop l).head.line (variable_of (shape_tree (out-Loop l).head.form.shape.value)) c.args.remaining.span.step (members_tree (out-Loop l).range.items) first m t)

pub returns-clause-leaves : goal.returns-clause-leaves
returns-clause-leaves c = λ first.
    let p = c.args.program.now in
    let l = c.args.repeated.now in
    let y = c.trips_whole-outcome in
    let step = c.args.remaining.span.step in
    let fits : FitsSigned w32 step = search rules in
    subst (λ s. Leaves (trips_in p l first s c.args.remaining.trips (map_of p c.args.cells.now) c.args.turns.now) c.args.turns.now (map_of p y.new.cells) y.new.turns y.result) (to_z-of_z w32 step fits) (y.ensures.leaves first)
