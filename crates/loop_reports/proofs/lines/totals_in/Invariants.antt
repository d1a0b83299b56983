use Rattle.std.proofs.Common.{◌≡◌, ℕ, ◌+◌, ◌<◌, ◌^◌}
use Rattle.std.specs.Prelude.{sum_by}
use Rattle.loop_reports.specs.BlockTrips.{capped}
use Rattle.loop_reports.specs.Lines.{total_of}
use Rattle.loop_reports.specs.declared.counts.Counts.{Counts}
use Rattle.loop_reports.specs.declared.row.Row.{Row}
use Rattle.loop_reports.proofs.lines.totals_in.Given as goal

abbrev pub invariant-loop-row : goal.invariant-loop-row
invariant-loop-row l = record {
  turns : capped (l.totals.turns + sum_by (λ (r : ℕ × Row). r.1.counts.turns) l.row-iterator) ≡ total_of (λ (c : Counts). c.turns) l.rows.entries;
  spent : capped (l.totals.spent + sum_by (λ (r : ℕ × Row). r.1.counts.spent) l.row-iterator) ≡ total_of (λ (c : Counts). c.spent) l.rows.entries;
  longest : capped (l.totals.longest + sum_by (λ (r : ℕ × Row). r.1.counts.longest) l.row-iterator) ≡ total_of (λ (c : Counts). c.longest) l.rows.entries;
  few_turns : l.totals.turns < 2 ^ 64;
  few_spent : l.totals.spent < 2 ^ 64;
  few_longest : l.totals.longest < 2 ^ 64;
}
