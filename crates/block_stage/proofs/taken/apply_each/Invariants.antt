use Rattle.std.proofs.Common.{◌≡◌, take, length}
use Rattle.meaning.specs.Stores.{known}
use Rattle.array_store.specs.Whole.{world_of}
use Rattle.block_stage.specs.Taken.{overlay_each}
use Rattle.block_stage.proofs.taken.apply_each.Given as goal

abbrev pub invariant-loop-one : goal.invariant-loop-one
invariant-loop-one l = record {
  map : known (world_of l.target) ≡ overlay_each (known (world_of l.fn.target)) (take l.one-index l.changes);
  len : length l.target ≡ length l.fn.target;
}
