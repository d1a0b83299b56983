use Rattle.std.proofs.Common.{subst, ap}
use Rattle.meaning.specs.declared.syntax.Loop.{out-Loop}
use Rattle.meaning.specs.Execution.{exec}
use Rattle.storage.specs.Checked.{items_in}
use Rattle.storage.specs.Starts.{map_of}
use Rattle.evaluator.specs.Statements.{Leaves}
use Rattle.block_stage.specs.Jobs.{range_in, variable_in}
use Rattle.whole_runs.proofs.Advancing.{several_same}
use Rattle.stage_loop.proofs.Advances.{on, trips_none}
use Rattle.stage_loop.proofs.do_statement.run_course.Goals as goal

pub returns-in-None-clause-leaves : goal.returns-in-None-clause-leaves
returns-in-None-clause-leaves g c = λ first.
    let p = c.args.program.now in
    trips_none (items_in p) c.args.repeated.now c.args.remaining.span.step first (map_of p c.args.cells.now) c.args.turns.now

pub returns-in-Some-clause-leaves : goal.returns-in-Some-clause-leaves
returns-in-Some-clause-leaves g c = λ first.
    let p = c.args.program.now in
    let l = c.args.repeated.now in
    let y = c.run_stages in
    let m = map_of p c.args.cells.now in
    let t = c.args.turns.now in
    let new = map_of p y.new.cells in
    let left = y.new.turns in
    let o = y.result.outcome in
    let stepped = subst (λ s. Leaves (on (items_in p) l s c.in-Some.course.value y.result.done m t) t new left o) c.in-Some.ensures.step y.ensures.leaves in
    subst (λ r. Leaves r t new left o) (several_same (exec (items_in p)) (out-Loop l).head.line (variable_in l) c.args.remaining.span.step (range_in l) c.in-Some.course.value first y.result.done m t) stepped
