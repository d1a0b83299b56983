use Rattle.std.proofs.Common.{◌≡◌, drop}
use Rattle.cell_names.specs.Cells.{are_named}
use Rattle.cell_names.specs.Told.{told_at}
use Rattle.cell_names.proofs.naming.name_of_cell.Given as goal

abbrev pub invariant-loop-one : goal.invariant-loop-one
invariant-loop-one l = told_at (are_named (drop l.one-index l.names)) l.place ≡ told_at (are_named l.names) l.cell
