use Rattle.std.proofs.Common.{◌≡◌, ◌++◌, drop}
use Rattle.loop_reports.specs.Cells.{more_subscripts}
use Rattle.loop_reports.proofs.text.put_more.Given as goal

abbrev pub invariant-loop-subscript : goal.invariant-loop-subscript
invariant-loop-subscript l = l.text.items ++ more_subscripts (drop l.subscript-index l.subscripts) ≡ l.initial.text.items ++ more_subscripts l.subscripts
