use Rattle.std.proofs.Common.{◌≡◌, ◌-◌, drop}
use Rattle.meaning.specs.Lines.{lines_of}
use Rattle.source_columns.proofs.excerpt.line_at.Given as goal

abbrev pub invariant-loop-ahead : goal.invariant-loop-ahead
invariant-loop-ahead l = drop l.ahead (lines_of l.rest) ≡ drop (l.fn.number - 1) (lines_of l.fn.source)

abbrev pub decreases-loop-ahead : goal.decreases-loop-ahead
decreases-loop-ahead l = l.ahead
