use Rattle.std.proofs.Common.{◌≡◌, map, take, true}
use Rattle.meaning.specs.Nesting.{lacks_end}
use Rattle.meaning.specs.Trees.{item_tree}
use Rattle.nesting.proofs.nesting.has_no_end.Given as goal

abbrev pub invariant-loop-item : goal.invariant-loop-item
invariant-loop-item l = lacks_end (map item_tree (take l.item-index l.items)) ≡ true
