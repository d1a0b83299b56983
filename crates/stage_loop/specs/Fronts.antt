-- The first blocks of a stage, up to its cut (own; after Rauchwerger and Padua).
use Rattle.std.specs.Prelude.{◌≡◌, ◌<◌, ◌≤◌, ℕ, length}
use Rattle.block_stage.specs.Cuts.{trips_before}
use Rattle.block_stage.specs.Faithful.{base_of, ran, trips_of}
use Rattle.block_stage.specs.Jobs.{JobParts, data_of}
use Rattle.block_stage.specs.Taken.{TakenParts, overlay_each}

-- what is taken of so many first blocks of a job's stage is what their trips, one after another
-- from the base, do
pub record IsFront (j : JobParts) (cut : ℕ) (t : TakenParts) : Type 0 where
  pub some : 0 < cut
  pub cells : t.cells ≡ length j.base
  pub within : t.used ≤ j.turns_left
  pub fold : trips_of (data_of j) j.first (trips_before (data_of j) cut) (base_of (data_of j))
      j.turns_left
      ≡ ran (data_of j) t.outcome (overlay_each (base_of (data_of j)) t.written) t.used
