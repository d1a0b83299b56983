-- The trips of the blocks of a stage.
use Rattle.std.specs.Prelude.{ℕ, ◌+◌, ◌-◌, ◌*◌, ◌^◌, min}
use Rattle.block_stage.specs.declared.told.StageStats.{StageStats}
use Rattle.loop_reports.specs.declared.trips.Trips.{Trips}

-- a number that stops at the greatest of 64 bits
abbrev pub capped : ℕ → ℕ
capped n = min n (2 ^ 64 - 1)

-- a block's trips, counted from 1 over the whole execution: those of the blocks before it and those
-- that were done before the stage stand in front, and the last block may have fewer
abbrev pub trips_of : ℕ → StageStats → ℕ → Trips
trips_of done t block = record {
  first = capped (done + block * t.size + 1);
  last = capped (done + min (block * t.size + t.size) t.trips);
}
