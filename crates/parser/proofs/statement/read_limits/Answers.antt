use Rattle.std.proofs.Common.{rules}
use Rattle.meaning.specs.Syntax.{expr_tree}
use Rattle.meaning.specs.Reading.{limits_at}
use Rattle.parser.specs.Behind.{limits_behind, step_behind}
use Rattle.parser.proofs.statement.read_limits.Goals as goal

pub returns-in-Err : goal.returns-in-Err
unfolding limits_at limits_behind step_behind
returns-in-Err c = let h = c.in-Err.ensures (expr_tree c.in_ok-first.first) in search rules

pub returns-in-Ok : goal.returns-in-Ok
unfolding limits_at limits_behind step_behind
returns-in-Ok c = let h = c.in-Ok.ensures (expr_tree c.in_ok-first.first) in search rules
