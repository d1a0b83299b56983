-- The cells at which stages of a DO statement are cut, since one block read what an earlier one
-- wrote.
use Rattle.std.specs.Prelude.{ℕ, ◌+◌, List, Option, Some, None, nat_eq, nat_lt, fold, if◌then◌else◌}
use Rattle.std.specs.Map.{lookup}
use Rattle.indexmap.specs.IndexMap.{insert_entry}
use Rattle.loop_reports.specs.declared.counts.Counts.{Counts}
use Rattle.loop_reports.specs.declared.row.Carried.{Carried}
use Rattle.block_stage.specs.declared.causes.Cause.{Cause}
use Rattle.block_stage.specs.declared.causes.Cause.TheVariants.{Whole, Loss, Exit, Dependence}
use Rattle.block_stage.specs.declared.causes.Cause.TheVariants.{Turns}
use Rattle.block_stage.specs.declared.told.StageStats.{StageStats}
use Rattle.loop_reports.specs.BlockTrips.{capped, trips_of}

abbrev pub no_counts : Counts
no_counts = record {
  reached = 0;
  trips = 0;
  in_order = 0;
  stages = 0;
  run = 0;
  committed = 0;
  dropped = 0;
  lost = 0;
  by_dependence = 0;
  by_exit = 0;
  by_turns = 0;
  turns = 0;
  spent = 0;
  longest = 0;
}

-- the first cut at a cell: the block behind the cut read it, which an earlier block wrote
abbrev pub carried_of : ℕ → ℕ → StageStats → ℕ → Carried
carried_of execution done t writer = record {
  cuts = 1;
  execution = execution;
  writer = trips_of done t writer;
  reader = trips_of done t t.cut;
}

-- a cell that is there is only counted once more
abbrev pub again_or : Option Carried → Carried → Carried
again_or None fresh = fresh
again_or (Some known) fresh = record known { cuts = capped (known.cuts + 1) }

abbrev pub with_cell : List (ℕ × Carried) → ℕ → Carried → List (ℕ × Carried)
with_cell cells cell fresh =
    insert_entry nat_eq cells cell (again_or (lookup (nat_eq cell) cells) fresh)

abbrev pub with_cause : List (ℕ × Carried) → ℕ → ℕ → StageStats → Cause → List (ℕ × Carried)
with_cause cells execution done t (Dependence d) =
    with_cell cells d.cell (carried_of execution done t d.writer)
with_cause cells execution done t Whole = cells
with_cause cells execution done t Loss = cells
with_cause cells execution done t Exit = cells
with_cause cells execution done t Turns = cells

-- the cells behind one more stage
abbrev pub cells_with : List (ℕ × Carried) → ℕ → ℕ → StageStats → List (ℕ × Carried)
cells_with cells execution done t = with_cause cells execution done t t.cause

-- the cell at which most stages were cut, of several the first
abbrev pub oftener_of : Option (ℕ × Carried) → ℕ × Carried → Option (ℕ × Carried)
oftener_of None x = Some x
oftener_of (Some most) x = if nat_lt most.1.cuts x.1.cuts then Some x else Some most

abbrev pub most_often : List (ℕ × Carried) → Option (ℕ × Carried)
most_often cells = fold oftener_of None cells
