use Rattle.std.proofs.Common.{rules}
use Rattle.meaning.specs.Syntax.{control_tree}
use Rattle.meaning.specs.Reading.{writing_of}
use Rattle.parser.specs.Behind.{control_behind}
use Rattle.parser.proofs.output.read_write.Goals as goal

pub returns-in-Err : goal.returns-in-Err
unfolding writing_of control_behind
returns-in-Err c = let h = c.in-Err.ensures (control_tree c.in_ok-control.control) in search rules

pub returns-in-Ok : goal.returns-in-Ok
unfolding writing_of control_behind
returns-in-Ok c = let h = c.in-Ok.ensures (control_tree c.in_ok-control.control) in search rules
