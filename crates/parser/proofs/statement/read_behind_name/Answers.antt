use Rattle.std.proofs.Common.{rules}
use Rattle.meaning.specs.Syntax.{exprs_tree}
use Rattle.meaning.specs.Reading.{target_of}
use Rattle.parser.specs.Behind.{target_behind}
use Rattle.parser.proofs.statement.read_behind_name.Goals as goal

pub returns-in-Err : goal.returns-in-Err
unfolding target_of target_behind
returns-in-Err c = let h = c.in-Err.ensures c.args.name.items (exprs_tree c.in_ok-subscripts.subscripts) in search rules

pub returns-in-Ok : goal.returns-in-Ok
unfolding target_of target_behind
returns-in-Ok c = let h = c.in-Ok.ensures c.args.name.items (exprs_tree c.in_ok-subscripts.subscripts) in search rules
