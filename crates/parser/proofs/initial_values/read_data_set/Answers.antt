use Rattle.std.proofs.Common.{rules}
use Rattle.meaning.specs.Syntax.{list_items_tree}
use Rattle.meaning.specs.Reading.{data_set_at}
use Rattle.parser.specs.Behind.{data_list_behind}
use Rattle.parser.proofs.initial_values.read_data_set.Goals as goal

pub returns-in-Err : goal.returns-in-Err
unfolding data_set_at data_list_behind
returns-in-Err c = let h = c.in-Err.ensures c.split_comma-comma.result.0 (list_items_tree c.in_ok-list.list) in search rules

pub returns-in-Ok : goal.returns-in-Ok
unfolding data_set_at data_list_behind
returns-in-Ok c = let h = c.in-Ok.ensures c.split_comma-comma.result.0 (list_items_tree c.in_ok-list.list) in search rules
