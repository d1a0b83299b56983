use Rattle.std.proofs.Common.{◌≡◌, ◌-◌, ◌<◌, ◌≤◌, [], length}
use Rattle.meaning.specs.declared.ending.Outcome.TheVariants as outcomes
use Rattle.storage.specs.Checked.{items_in}
use Rattle.storage.specs.Starts.{map_of}
use Rattle.evaluator.specs.Statements.{Leaves}
use Rattle.block_stage.specs.Jobs.{variable_in}
use Rattle.stage_loop.specs.Loops.{AreIntegers}
use Rattle.stage_loop.proofs.Advances.{on}
use Rattle.stage_loop.proofs.stages.run_stages.Given as goal

abbrev pub invariant-loop-rest : goal.invariant-loop-rest
invariant-loop-rest g l = record {
  so_far : Leaves
      (on (items_in l.program) l.repeated l.fn.course.step l.fn.course.value (l.fn.course.trips - l.rest.trips) (map_of l.program l.initial.cells) l.initial.turns)
      l.initial.turns (map_of l.program l.cells) l.turns outcomes.Normal;
  step : l.rest.step ≡ l.fn.course.step;
  has : 0 < l.rest.trips → map_of l.program l.cells (variable_in l.repeated) [] ≡ l.rest.value;
  few : l.rest.trips ≤ l.fn.course.trips;
  fits : AreIntegers l.rest.value l.fn.course.step l.rest.trips;
  same : l.fn.course.trips - l.rest.trips ≡ 0 → (l.cells ≡ l.initial.cells) × (l.turns ≡ l.initial.turns);
  len : length l.cells ≡ length l.initial.cells;
}

abbrev pub decreases-loop-rest : goal.decreases-loop-rest
decreases-loop-rest g l = l.rest.trips
