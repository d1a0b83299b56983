use Rattle.std.proofs.Common.{◌≡◌, ◌+◌, ◌≤◌, map, length}
use Rattle.meaning.specs.Lines.{lines_of, statement_lines}
use Rattle.meaning.specs.Statements.{entry_of, statements_in}
use Rattle.source_columns.proofs.Texts.{with_front}
use Rattle.source_columns.proofs.reading.statements.Given as goal

abbrev pub invariant-loop-line : goal.invariant-loop-line
invariant-loop-line l = record {
  told : with_front (map entry_of l.statements.items) (statements_in (statement_lines l.number (lines_of l.rest))) ≡ statements_in (statement_lines 1 (lines_of l.source));
  counted : l.number + length (lines_of l.rest) ≤ 65536;
}

abbrev pub decreases-loop-line : goal.decreases-loop-line
decreases-loop-line l = length l.rest
