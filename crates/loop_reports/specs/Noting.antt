-- What is noted of DO statements, by the lines where they stand.
use Rattle.std.specs.Prelude.{ℕ, List, [], Option, Some, None, ◌==◌, if◌then◌else◌}
use Rattle.std.specs.BTreeMap.{BTreeMap, get}
use Rattle.std.specs.Ordering.{nat_cmp}
use Rattle.loop_reports.specs.declared.counts.Counts.{Counts}
use Rattle.loop_reports.specs.declared.row.Carried.{Carried}
use Rattle.loop_reports.specs.declared.row.Row.{Row}
use Rattle.block_stage.specs.declared.told.StageStats.{StageStats}
use Rattle.loop_reports.specs.Carrying.{cells_with, no_counts}
use Rattle.loop_reports.specs.Counting.{ordered_with, reached_with, staged_with}

-- the counts of a statement, and the cells at which its stages were cut
pub record Noted : Type 0 where
  pub counts : Counts
  pub cells : List (ℕ × Carried)

abbrev pub nothing_noted : Noted
nothing_noted = record { counts = no_counts; cells = [] }

abbrev pub noted_in : Option Row → Noted
noted_in None = nothing_noted
noted_in (Some r) = record { counts = r.counts; cells = r.cells.entries }

abbrev pub noted_at : BTreeMap ℕ Row → ℕ → Noted
noted_at rows line = noted_in (get nat_cmp rows line)

-- one more time that it is reached, some trips in order, and one more stage
abbrev pub reached_once : ℕ → Noted → Noted
reached_once trips n = record n { counts = reached_with n.counts trips }

abbrev pub ordered_once : ℕ → Noted → Noted
ordered_once trips n = record n { counts = ordered_with n.counts trips }

abbrev pub staged_once : ℕ → StageStats → Noted → Noted
staged_once done t n =
    record { counts = staged_with n.counts t; cells = cells_with n.cells n.counts.reached done t }

-- of the statement at a line, and nothing of the others
abbrev pub at_line : ℕ → (Noted → Noted) → (ℕ → Noted) → ℕ → Noted
at_line line more noted q = if q == line then more (noted q) else noted q
