use Rattle.std.proofs.Common.{◌≡◌, suc, ◌++◌, drop}
use Rattle.word_places.specs.Columns.{marks_from}
use Rattle.word_places.proofs.marks.add_line.Given as goal

abbrev pub invariant-loop-index : goal.invariant-loop-index
invariant-loop-index l =
    l.marks.items ++ marks_from l.line (suc l.index) (drop l.index l.columns) ≡ l.initial.marks.items ++ marks_from l.line 7 (drop 6 l.columns)
