use Rattle.std.proofs.Common.{◌≡◌, map, length}
use Rattle.meaning.specs.Syntax.{no_items, list_item_tree, list_items_tree}
use Rattle.parser.specs.Rows.{items_before}
use Rattle.parser.proofs.list.items_of.Given as goal

abbrev pub invariant-loop-item : goal.invariant-loop-item
invariant-loop-item l = items_before (map list_item_tree l.row.items) (list_items_tree l.items) ≡ items_before (map list_item_tree l.fn.row.items) no_items

abbrev pub decreases-loop-item : goal.decreases-loop-item
decreases-loop-item l = length l.row.items
