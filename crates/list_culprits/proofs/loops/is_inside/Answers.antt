use Rattle.std.specs.Str.{bytes_eq}
use Rattle.meaning.specs.Surroundings.{loop_variables}
use Rattle.meaning.specs.Syntax.{list_items_tree}
use Rattle.list_culprits.proofs.Stepping.{some_any}
use Rattle.list_culprits.proofs.loops.is_inside.Goals as goal

pub returns-in-Some : goal.returns-in-Some
returns-in-Some c = some_any (bytes_eq c.args.name.now) (loop_variables (list_items_tree c.args.items.now)) _ c.in-Some.ensures

pub returns-in-None : goal.returns-in-None
returns-in-None c = some_any (bytes_eq c.args.name.now) (loop_variables (list_items_tree c.args.items.now)) _ c.in-None.ensures
