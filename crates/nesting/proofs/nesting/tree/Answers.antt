use Rattle.std.proofs.Common.{map}
use Rattle.meaning.specs.Trees.{item_tree}
use Rattle.nesting.specs.Open.{unfinished}
use Rattle.nesting.proofs.Told.{tells}
use Rattle.nesting.proofs.nesting.tree.Goals as goal

pub returns : goal.returns
returns c =
    let front = c.in_ok-missing.field-0 in
    let known = c.in_ok-missing.ensures in
    record {
      exact = tells (map item_tree c.args.items.items) front.missing front.first (unfinished front.so_far) known.missing known.first known.reads c.told.result (rw (← c.lesser.ensures) c.told.ensures.exact);
    }
