use Rattle.std.proofs.Common.{rules}
use Rattle.meaning.specs.Syntax.{unit_tree}
use Rattle.meaning.specs.Reading.{unit_first_at}
use Rattle.parser.specs.Behind.{unit_behind}
use Rattle.parser.proofs.output.read_unit_first.Goals as goal

pub returns-in-Err : goal.returns-in-Err
unfolding unit_first_at unit_behind
returns-in-Err c = let h = c.in-Err.ensures (unit_tree c.in_ok-unit.unit) in search rules

pub returns-in-Ok : goal.returns-in-Ok
unfolding unit_first_at unit_behind
returns-in-Ok c = let h = c.in-Ok.ensures (unit_tree c.in_ok-unit.unit) in search rules
