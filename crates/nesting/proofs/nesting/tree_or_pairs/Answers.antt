use Rattle.std.proofs.Common.{map}
use Rattle.meaning.specs.Trees.{item_tree, members_tree}
use Rattle.nesting.specs.Open.{unfinished}
use Rattle.nesting.proofs.Told.{nests}
use Rattle.nesting.proofs.nesting.tree_or_pairs.Goals as goal

pub returns-in-None : goal.returns-in-None
returns-in-None c =
    let front = c.in_ok-missing.field-0 in
    let known = c.in_ok-missing.ensures in
    nests (map item_tree c.args.items.items) front.missing front.first (unfinished front.so_far) known.missing known.first known.reads (members_tree c.into_innermost.result.items) c.into_innermost.ensures c.in-None.ensures
