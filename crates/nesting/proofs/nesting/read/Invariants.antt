use Rattle.std.proofs.Common.{◌≡◌, map}
use Rattle.std.specs.Vec.Iter.{into_iter_items}
use Rattle.meaning.specs.Nesting.{missing_end as missing}
use Rattle.meaning.specs.Trees.{item_tree}
use Rattle.nesting.specs.Open.{unfinished}
use Rattle.nesting.proofs.SoFar.{IsSoFar}
use Rattle.nesting.proofs.nesting.read.Given as goal

abbrev pub invariant-loop-item : goal.invariant-loop-item
invariant-loop-item l = record {
  so_far : IsSoFar (map item_tree l.fn.items.items) l.order (unfinished l.so_far) (map item_tree (into_iter_items l.item-iterator));
  lacks : l.missing ≡ missing (map item_tree l.fn.items.items);
}
