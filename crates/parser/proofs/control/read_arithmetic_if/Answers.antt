use Rattle.std.proofs.Common.{rules}
use Rattle.meaning.specs.Syntax.{expr_tree}
use Rattle.meaning.specs.Reading.{arithmetic_if_of}
use Rattle.parser.specs.Behind.{branches_behind, last_label_behind}
use Rattle.parser.proofs.control.read_arithmetic_if.Goals as goal

pub returns-in-Err : goal.returns-in-Err
unfolding arithmetic_if_of branches_behind last_label_behind
returns-in-Err c = let h = c.in-Err.ensures (expr_tree c.in_ok-value.value) in search rules

pub returns-in-Ok : goal.returns-in-Ok
unfolding arithmetic_if_of branches_behind last_label_behind
returns-in-Ok c = let h = c.in-Ok.ensures (expr_tree c.in_ok-value.value) in search rules
