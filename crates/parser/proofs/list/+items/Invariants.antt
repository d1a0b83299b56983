use Rattle.std.proofs.Common.{◌≡◌, ◌+◌, ◌-◌, ◌*◌, map}
use Rattle.meaning.specs.Syntax.{list_item_tree}
use Rattle.meaning.specs.Reading.{items_at}
use Rattle.parser.proofs.Listed.{others_at}
use Rattle.parser.proofs.list.+items.Given as goal

abbrev pub decreases-read_items : goal.decreases-read_items
decreases-read_items l = 3 * l.most

abbrev pub decreases-read_loop_item : goal.decreases-read_loop_item
decreases-read_loop_item l = 3 * l.most + 1

abbrev pub decreases-read_item : goal.decreases-read_item
decreases-read_item l = 3 * l.most + 2

abbrev pub invariant-read_items-loop-turn : goal.invariant-read_items-loop-turn
invariant-read_items-loop-turn l = others_at l.least (map list_item_tree l.row.items) (l.most - l.turn) l.rest ≡ items_at l.least l.most l.text
