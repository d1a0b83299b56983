use Rattle.std.proofs.Common.{◌≡◌, ◌+◌, ◌≤◌, length}
use Rattle.meaning.specs.Lines.{lines_of}
use Rattle.source_columns.proofs.lines.line_count.Given as goal

abbrev pub invariant-loop-behind : goal.invariant-loop-behind
invariant-loop-behind l = record {
  told : l.count + length (lines_of l.rest) ≡ length (lines_of l.source);
  room : l.count + length l.rest ≤ length l.source;
}

abbrev pub decreases-loop-behind : goal.decreases-loop-behind
decreases-loop-behind l = length l.rest
