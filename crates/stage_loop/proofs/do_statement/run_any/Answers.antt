use Rattle.meaning.specs.declared.ending.Outcome.TheVariants as outcomes
use Rattle.meaning.specs.declared.syntax.Loop.{out-Loop}
use Rattle.meaning.specs.Execution.{exec, onward}
use Rattle.storage.specs.Checked.{items_in}
use Rattle.storage.specs.Starts.{map_of}
use Rattle.values.specs.Programs.{scope_in}
use Rattle.evaluator.specs.Over.{loop_as}
use Rattle.evaluator.proofs.Composed.{moves_same}
use Rattle.evaluator.proofs.Executed.{passes_over}
use Rattle.evaluator.proofs.Looped.{unless_do}
use Rattle.block_stage.specs.Jobs.{range_in, shape_in}
use Rattle.stage_loop.proofs.do_statement.run_any.Goals as goal

pub returns-in-None-clause-moves : goal.returns-in-None-clause-moves
returns-in-None-clause-moves g c =
    let p = c.args.program.now in
    let all = items_in p in
    let l = c.args.repeated.now in
    let m = map_of p c.args.cells.now in
    let t = c.args.turns.now in
    moves_same (λ go. go onward m t) (λ go. loop_as all (shape_in l) l m t go) t m t outcomes.Normal (unless_do (shape_in l) (scope_in p) (exec all) (out-Loop l).head.line (range_in l) m t c.in-None.ensures) (passes_over m t)
