use Rattle.std.proofs.Common.{◌≡◌, ◌++◌, length}
use Rattle.meaning.specs.Lines.{lines_of}
use Rattle.word_places.specs.Columns.{marks_behind}
use Rattle.word_places.proofs.marks.add_behind.Given as goal

abbrev pub invariant-loop-text : goal.invariant-loop-text
invariant-loop-text l =
    l.marks.items ++ marks_behind l.number (lines_of l.rest) ≡ l.initial.marks.items ++ marks_behind l.line (lines_of l.source)

abbrev pub decreases-loop-text : goal.decreases-loop-text
decreases-loop-text l = length (lines_of l.rest)
