use Rattle.std.proofs.Common.{map, sym}
use Rattle.meaning.specs.Trees.{item_tree, nested}
use Rattle.all_breaches.proofs.Composed.{same_as, same_by}
use Rattle.all_breaches.proofs.Telling.{order_passes, order_refuses}
use Rattle.all_breaches.proofs.phases.order_pairs.Goals as goal

pub returns-in-Ok : goal.returns-in-Ok
returns-in-Ok c =
    let nests = rw c.in-Nests.is at c.in_ok-unit.ensures in
    same_by _ _ _ c.in-Ok.ensures (sym (order_passes (map item_tree c.args.members.items) (nested c.in-Nests.unit) nests))

pub returns-in-Breaks : goal.returns-in-Breaks
returns-in-Breaks c =
    let breaks = rw c.in-Breaks.is at c.in_ok-unit.ensures in
    same_as _ _ (sym (order_refuses (map item_tree c.args.members.items) c.in-Breaks.pairs.items breaks.0 breaks.1))
