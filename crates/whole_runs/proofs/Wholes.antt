-- What was read and done over a whole store.
use Rattle.std.proofs.Common.{◌≡◌, ℤ, List, refl, ap}
use Rattle.meaning.specs.Stores.{Cells, Reads, Does, known, overlay}
use Rattle.meaning.proofs.Stores.{reads_known, does_known}
use Rattle.array_store.specs.Whole.{world_of}
use Rattle.meaning.specs.declared.syntax.Tree.{Tree}
use Rattle.storage.specs.Starts.{map_of}
use Rattle.values.specs.Programs.{map_at}

module _ (old new : List ℤ) where
  pub reads_whole : (P : Cells → Type 0) → Reads (world_of old) (world_of new) P → P (known (world_of old))
  reads_whole P reads = reads_known (world_of old) (world_of new) P refl reads

  pub does_whole : (P : Cells → Cells → Type 0) → Does (world_of old) (world_of new) P → P (known (world_of old)) (known (world_of new))
  does_whole P does = does_known (world_of old) (world_of new) P refl does

  -- reading keeps the values
  pub kept_whole : (t : Tree) (P : Cells → Type 0) → Reads (world_of old) (world_of new) P → map_of t new ≡ map_of t old
  unfolding known
  kept_whole t P reads = ap (λ written. map_at t (overlay (world_of old).base written)) reads.unwritten
