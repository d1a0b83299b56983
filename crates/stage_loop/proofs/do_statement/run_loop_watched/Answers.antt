use Rattle.std.proofs.Common.{subst}
use Rattle.storage.specs.Checked.{items_in}
use Rattle.evaluator.specs.Over.{MovesIn, loop_as}
use Rattle.block_stage.specs.Jobs.{shape_in}
use Rattle.stage_loop.proofs.Advances.{left_by_used}
use Rattle.stage_loop.proofs.do_statement.run_loop_watched.Goals as goal

pub returns-clause-moves : goal.returns-clause-moves
returns-clause-moves g c =
    let p = c.args.program.now in
    let l = c.args.repeated.now in
    let y = c.run_any-outcome in
    subst (λ n. MovesIn p c.args.cells.now y.new.cells (loop_as (items_in p) (shape_in l) l) c.args.turns n y.result) (left_by_used y.result c.args.turns y.new.turns y.ensures.spends) y.ensures.moves
