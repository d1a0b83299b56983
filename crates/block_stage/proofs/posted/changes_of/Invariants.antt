use Rattle.std.proofs.Common.{◌≡◌, ◌≤◌, ℕ, length, take, slice_get}
use Rattle.std.specs.Prelude.{vec_len, vec_capacity}
use Rattle.block_stage.specs.Taken.{wrote_in}
use Rattle.block_stage.proofs.posted.changes_of.Given as goal

abbrev pub invariant-loop-at : goal.invariant-loop-at
invariant-loop-at l = record {
  wrote : l.changes.items ≡ wrote_in (take l.at l.initial.places.items);
  rest : (k : ℕ) → l.at ≤ k → slice_get l.places.items k ≡ slice_get l.initial.places.items k;
  len : length l.places.items ≡ length l.initial.places.items;
  few : vec_len l.changes ≤ l.at;
  room : length l.initial.places.items ≤ vec_capacity l.changes;
}
