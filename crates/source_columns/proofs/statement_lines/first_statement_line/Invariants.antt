use Rattle.std.proofs.Common.{◌≡◌, ◌+◌, ◌≤◌, length}
use Rattle.meaning.specs.Lines.{lines_of, statement_lines}
use Rattle.source_columns.proofs.statement_lines.first_statement_line.Given as goal

abbrev pub invariant-loop-line : goal.invariant-loop-line
invariant-loop-line l = record {
  told : statement_lines l.number (lines_of l.rest) ≡ statement_lines l.fn.number (lines_of l.source);
  counted : l.number + length (lines_of l.rest) ≤ 65536;
  shorter : length l.rest ≤ length l.source;
}

abbrev pub decreases-loop-line : goal.decreases-loop-line
decreases-loop-line l = length l.rest
