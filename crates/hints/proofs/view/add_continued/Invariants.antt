use Rattle.std.proofs.Common.{◌≡◌, ◌++◌, length}
use Rattle.std.specs.List.{flat_map}
use Rattle.meaning.specs.Lines.{lines_of}
use Rattle.source_columns.specs.Excerpts.{continued}
use Rattle.hints.specs.Views.{columns}
use Rattle.hints.proofs.view.add_continued.Given as goal

abbrev pub invariant-loop-line : goal.invariant-loop-line
invariant-loop-line l =
    l.text.items ++ flat_map (columns l.from l.to) (continued (lines_of l.rest)) ≡ l.initial.text.items ++ flat_map (columns l.from l.to) (continued (lines_of l.fn.source))

abbrev pub decreases-loop-line : goal.decreases-loop-line
decreases-loop-line l = length l.rest
