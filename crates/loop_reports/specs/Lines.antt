-- The lines on what speculation did.
use Rattle.std.specs.Prelude.{ℕ, ◌+◌, ◌==◌, Bool, true, false, List, [], ◌∷◌, ◌++◌, Option, Some}
use Rattle.std.specs.Prelude.{None, codes, flat_map, nat_lt, option_map, sum_by, if◌then◌else◌}
use Rattle.std.specs.Borrow.{Bor}
use Rattle.std.specs.BTreeMap.{BTreeMap, get}
use Rattle.std.specs.Ordering.{nat_cmp}
use Rattle.meaning.specs.Arrays.{Named}
use Rattle.cell_names.specs.Told.{told_at}
use Rattle.do_statements.specs.declared.listing.DoStatement.{DoStatement}
use Rattle.do_statements.specs.declared.listing.Standing.{Standing}
use Rattle.do_statements.specs.declared.listing.Standing.TheVariants.{While, Output, Inside, Apart}
use Rattle.loop_reports.specs.declared.counts.Counts.{Counts}
use Rattle.loop_reports.specs.declared.lines.Totals.{Totals}
use Rattle.loop_reports.specs.declared.row.Carried.{Carried}
use Rattle.loop_reports.specs.declared.row.Row.{Row}
use Rattle.loop_reports.specs.Advice.{advice_line}
use Rattle.loop_reports.specs.BlockTrips.{capped}
use Rattle.loop_reports.specs.Carrying.{most_often}
use Rattle.loop_reports.specs.Cells.{cell_text, counted, trips_text}

-- ---- a DO statement that was run by stages: words and numbers by turns

abbrev pub reached_text : Counts → List ℕ
reached_text c =
    counted (codes " SPECULATED REACHED ") c.reached ++ counted (codes " TRIPS ") c.trips ++ counted (codes " INORDER ") c.in_order
    ++ counted (codes " STAGES ") c.stages

abbrev pub blocks_text : Counts → List ℕ
blocks_text c =
    counted (codes " BLOCKS ") (capped (c.run + c.lost)) ++ counted (codes " COMMITTED ") c.committed ++ counted (codes " DROPPED ") c.dropped
    ++ counted (codes " LOST ") c.lost

abbrev pub cuts_text : Counts → List ℕ
cuts_text c =
    counted (codes " DEPENDENCE ") c.by_dependence ++ counted (codes " EXIT ") c.by_exit ++ counted (codes " LIMIT ") c.by_turns

abbrev pub cost_text : Counts → List ℕ
cost_text c = counted (codes " TURNS ") c.turns ++ counted (codes " SPENT ") c.spent ++ codes "\n"

-- which execution of a statement that was reached so often; of one alone it isn't said
abbrev pub execution_text : ℕ → ℕ → List ℕ
execution_text reached execution =
    if nat_lt 1 reached then counted (codes " OF EXECUTION ") execution else []

abbrev pub times_text : ℕ → List ℕ
times_text times = counted (codes ", ") times ++ (if times == 1 then codes " TIME\n" else codes " TIMES\n")

-- the trips of the writer and of the reader, where stages were cut at a cell, and how many were
abbrev pub cuts_at : List Named → ℕ → ℕ → Carried → List ℕ
cuts_at names reached cell x =
    codes "    " ++ cell_text (told_at names cell) cell ++ trips_text (codes " WRITTEN IN TRIPS ") x.writer
    ++ trips_text (codes ", READ IN TRIPS ") x.reader ++ execution_text reached x.execution
    ++ times_text x.cuts

abbrev pub dependence_line : List Named → ℕ → Option (ℕ × Carried) → List ℕ
dependence_line names reached None = []
dependence_line names reached (Some (cell, x)) = cuts_at names reached cell x

abbrev pub speculated_lines : List Named → Row → List ℕ
speculated_lines names r =
    (reached_text r.counts ++ blocks_text r.counts ++ cuts_text r.counts ++ cost_text r.counts)
    ++ dependence_line names r.counts.reached (most_often r.cells.entries)
    ++ advice_line names r.counts (most_often r.cells.entries)

-- ---- and one that wasn't

-- none of its trips were in a stage
abbrev pub untried_text : Counts → List ℕ
untried_text c = counted (codes " UNTRIED REACHED ") c.reached ++ counted (codes " TRIPS ") c.trips ++ codes "\n"

-- nothing was noted of it
abbrev pub standing_text : Bool → Standing → List ℕ
standing_text is_alone While = codes " WHILE\n"
standing_text is_alone Output = codes " OUTPUT\n"
standing_text is_alone (Inside line) = counted (codes " INSIDE LOOP ") line ++ codes "\n"
standing_text is_alone Apart = if is_alone then codes " ONEWORKER\n" else codes " UNREACHED\n"

-- ---- each of them

abbrev pub row_lines : List Named → Row → List ℕ
row_lines names r =
    if nat_lt 0 r.counts.stages then speculated_lines names r else untried_text r.counts

abbrev pub row_if : Option (Bor Row) → Option Row
row_if r = option_map (λ x. x.now) r

abbrev pub behind_line : List Named → Bool → Standing → Option Row → List ℕ
behind_line names is_alone standing None = standing_text is_alone standing
behind_line names is_alone standing (Some r) = row_lines names r

abbrev pub lines_of : List Named → BTreeMap ℕ Row → Bool → DoStatement → List ℕ
lines_of names rows is_alone s =
    counted (codes "  LOOP ") s.line
    ++ behind_line names is_alone s.standing (get nat_cmp rows s.line)

-- ---- all of them

abbrev pub total_of : (Counts → ℕ) → List (ℕ × Row) → ℕ
total_of f rows = capped (sum_by (λ (r : ℕ × Row). f r.1.counts) rows)

abbrev pub totals_of : List (ℕ × Row) → Totals
totals_of rows = record {
  turns = total_of (λ (c : Counts). c.turns) rows;
  spent = total_of (λ (c : Counts). c.spent) rows;
  longest = total_of (λ (c : Counts). c.longest) rows;
}

abbrev pub with_counts_of : Totals → Counts → Totals
with_counts_of t c =
    record {
      turns = capped (t.turns + c.turns);
      spent = capped (t.spent + c.spent);
      longest =
          capped (t.longest + c.longest);
    }

-- the turns of the whole run where they are known
abbrev pub behind_turns : Option ℕ → List ℕ
behind_turns None = []
behind_turns (Some turns) = counted (codes " OF ") turns

abbrev pub speculation_line : Totals → Option ℕ → List ℕ
speculation_line t turns =
    counted (codes "  SPECULATION TURNS ") t.turns ++ counted (codes " SPENT ") t.spent ++ counted (codes " LONGEST ") t.longest
    ++ behind_turns turns ++ codes "\n"

abbrev pub loop_lines : List Named → List DoStatement → BTreeMap ℕ Row → Bool → Option ℕ → List ℕ
loop_lines names statements rows is_alone turns =
    flat_map (lines_of names rows is_alone) statements
    ++ speculation_line (totals_of rows.entries) turns
