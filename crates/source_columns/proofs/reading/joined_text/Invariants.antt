use Rattle.std.proofs.Common.{◌≡◌, ◌+◌, ◌*◌, ◌≤◌, ◌++◌, length, vec_len}
use Rattle.meaning.specs.Lines.{lines_of, statement_lines}
use Rattle.meaning.specs.Refusals.{unless}
use Rattle.meaning.specs.Statements.{continuations}
use Rattle.source_columns.specs.Continuing.{first_broken, behind}
use Rattle.source_columns.proofs.Texts.{fields}
use Rattle.source_columns.proofs.reading.joined_text.Given as goal

abbrev pub invariant-loop-line : goal.invariant-loop-line
invariant-loop-line l = record {
  told : unless (first_broken l.count (continuations (statement_lines l.number (lines_of l.rest)))) (l.text.items ++ fields (continuations (statement_lines l.number (lines_of l.rest)))) ≡ unless (first_broken 0 (continuations (statement_lines l.first (lines_of l.source)))) (l.fn.text.items ++ fields (continuations (statement_lines l.first (lines_of l.source))));
  left : behind (statement_lines l.number (lines_of l.rest)) ≡ behind (statement_lines l.first (lines_of l.source));
  counted : l.number + length (lines_of l.rest) ≤ 65536;
  few : l.count ≤ 19;
  long : vec_len l.text ≡ 66 * (l.count + 1);
  shorter : length l.rest ≤ length l.source;
}

abbrev pub decreases-loop-line : goal.decreases-loop-line
decreases-loop-line l = length l.rest
