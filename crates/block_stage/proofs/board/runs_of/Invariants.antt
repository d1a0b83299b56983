use Rattle.std.proofs.Common.{◌≡◌, ◌≤◌, ℕ, length, map, take, slice_get}
use Rattle.std.specs.Prelude.{vec_capacity}
use Rattle.block_stage.specs.Stages.{AreRunsOf, run_in}
use Rattle.block_stage.proofs.board.runs_of.Given as goal

abbrev pub invariant-loop-at : goal.invariant-loop-at
invariant-loop-at g l = record {
  runs : l.runs.items ≡ map run_in (take l.at l.initial.places.items);
  faithful : AreRunsOf g.J.JobKey.job l.runs.items;
  rest : (k : ℕ) → l.at ≤ k → slice_get l.places.items k ≡ slice_get l.initial.places.items k;
  len : length l.places.items ≡ length l.initial.places.items;
  room : length l.initial.places.items ≤ vec_capacity l.runs;
}
