use Rattle.std.proofs.Common.{◌≡◌, ◌++◌, drop}
use Rattle.std.specs.Prelude.{flat_map}
use Rattle.cell_names.specs.Cells.{are_named}
use Rattle.loop_reports.specs.Lines.{lines_of}
use Rattle.loop_reports.proofs.lines.told_loops.Given as goal

abbrev pub invariant-loop-statement : goal.invariant-loop-statement
invariant-loop-statement l =
    l.text.items ++ flat_map (lines_of (are_named l.names) l.rows l.is_alone) (drop l.statement-index l.statements) ≡ flat_map (lines_of (are_named l.names) l.rows l.is_alone) l.statements
