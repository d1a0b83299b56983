use Rattle.std.proofs.Common.{◌≡◌}
use Rattle.std.specs.Prelude.{fold}
use Rattle.loop_reports.specs.Carrying.{most_often, oftener_of}
use Rattle.loop_reports.proofs.row.dependence_of.Given as goal

abbrev pub invariant-loop-cell : goal.invariant-loop-cell
invariant-loop-cell l = fold oftener_of l.most l.cell-iterator ≡ most_often l.row.cells.entries
