-- What is told where memory or a write was refused: no number of turns.
use Rattle.std.specs.Prelude.{None}
use Rattle.meaning.specs.declared.ending.Report.{Report}
use Rattle.meaning.specs.declared.ending.Ending.TheVariants as kinds

abbrev pub Memory : Report
Memory = record { ending = kinds.Memory; turns = None }

abbrev pub WriteRefused : Report
WriteRefused = record { ending = kinds.WriteRefused; turns = None }
