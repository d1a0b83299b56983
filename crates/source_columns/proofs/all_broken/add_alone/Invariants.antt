use Rattle.std.proofs.Common.{◌≡◌, ◌+◌, ◌≤◌, ◌++◌, length, map}
use Rattle.meaning.specs.Lines.{lines_of, statement_lines}
use Rattle.meaning.specs.Statements.{broken_alone, continuations}
use Rattle.source_columns.proofs.all_broken.add_alone.Given as goal

abbrev pub invariant-loop-line : goal.invariant-loop-line
invariant-loop-line l = record {
  told : l.pairs.items ++ map broken_alone (continuations (statement_lines l.number (lines_of l.rest))) ≡ l.fn.pairs.items ++ map broken_alone (continuations (statement_lines 1 (lines_of l.source)));
  counted : l.number + length (lines_of l.rest) ≤ 65536;
}

abbrev pub decreases-loop-line : goal.decreases-loop-line
decreases-loop-line l = length l.rest
