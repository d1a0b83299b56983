use Rattle.std.proofs.Common.{◌≡◌, ◌+◌, ◌≤◌, ◌++◌, length}
use Rattle.std.specs.List.{flat_map}
use Rattle.meaning.specs.Lines.{lines_of, statement_lines}
use Rattle.meaning.specs.Statements.{broken_in_line}
use Rattle.source_columns.proofs.all_broken.add_lines.Given as goal

abbrev pub invariant-loop-line : goal.invariant-loop-line
invariant-loop-line l = record {
  told : l.pairs.items ++ flat_map broken_in_line (statement_lines l.number (lines_of l.rest)) ≡ l.fn.pairs.items ++ flat_map broken_in_line (statement_lines 1 (lines_of l.source));
  counted : l.number + length (lines_of l.rest) ≤ 65536;
}

abbrev pub decreases-loop-line : goal.decreases-loop-line
decreases-loop-line l = length l.rest
