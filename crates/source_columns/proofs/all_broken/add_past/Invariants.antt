use Rattle.std.proofs.Common.{◌≡◌, ◌+◌, ◌≤◌, drop, length}
use Rattle.meaning.specs.Lines.{lines_of, statement_lines}
use Rattle.meaning.specs.Statements.{continuations}
use Rattle.source_columns.proofs.all_broken.add_past.Given as goal

abbrev pub invariant-loop-line : goal.invariant-loop-line
invariant-loop-line l = record {
  same : l.pairs.items ≡ l.fn.pairs.items;
  left : drop l.left (continuations (statement_lines l.number (lines_of l.rest))) ≡ drop 19 (continuations (statement_lines (l.first.number + 1) (lines_of l.first.behind.now)));
  counted : l.number + length (lines_of l.rest) ≤ 65536;
}

abbrev pub decreases-loop-line : goal.decreases-loop-line
decreases-loop-line l = length l.rest
