use Rattle.std.proofs.Common.{rules, ◌≡◌, length}
use Rattle.parser.proofs.Listed.{put_before, all_put}
use Rattle.parser.proofs.list.items_of.Goals as goal

pub loop-item-preserved : goal.loop-item-preserved
loop-item-preserved c = put_before c.loop-item.row.items c.pop.new.self.items c.in-Some.item _ _ _ c.in-Some.ensures.items c.loop-item.invariant c.in_ok-items.ensures

pub returns : goal.returns
returns c =
    let emptied : length c.loop-item.row.items ≡ 0 = search rules in
    all_put c.loop-item.row.items _ _ emptied c.loop-item.invariant
