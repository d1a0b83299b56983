use Rattle.std.proofs.Common.{◌≡◌, ◌+◌, ◌≤◌, length}
use Rattle.meaning.specs.Lines.{lines_of, statement_lines}
use Rattle.meaning.specs.Statements.{continuations, text_of}
use Rattle.source_columns.specs.Views.{line_of}
use Rattle.source_columns.proofs.Apostrophes.{paired, both}
use Rattle.source_columns.proofs.Texts.{fields}
use Rattle.source_columns.proofs.reading.is_text_paired.Given as goal

abbrev pub invariant-loop-line : goal.invariant-loop-line
invariant-loop-line l = record {
  told : both l.paired (paired (fields (continuations (statement_lines l.number (lines_of l.rest))))) ≡ paired (text_of (record { initial = line_of l.first; continued = continuations (statement_lines (l.first.number + 1) (lines_of l.first.behind.now)) }));
  counted : l.number + length (lines_of l.rest) ≤ 65536;
}

abbrev pub decreases-loop-line : goal.decreases-loop-line
decreases-loop-line l = length l.rest
