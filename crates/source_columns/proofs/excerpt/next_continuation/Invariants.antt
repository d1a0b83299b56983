use Rattle.std.proofs.Common.{◌≡◌, ◌≤◌, length}
use Rattle.meaning.specs.Lines.{lines_of}
use Rattle.source_columns.specs.Excerpts.{continued}
use Rattle.source_columns.proofs.excerpt.next_continuation.Given as goal

abbrev pub invariant-loop-line : goal.invariant-loop-line
invariant-loop-line l = record {
  told : continued (lines_of l.rest) ≡ continued (lines_of l.fn.source);
  shorter : length l.rest ≤ length l.fn.source;
}

abbrev pub decreases-loop-line : goal.decreases-loop-line
decreases-loop-line l = length l.rest
