use Rattle.label_targets.proofs.Putting.{on_ok_then, loop_places, block_places}
use Rattle.label_targets.proofs.places.+places.Goals as goal

pub put_member-returns-in_ok-put-in-Loop : goal.put_member-returns-in_ok-put-in-Loop
put_member-returns-in_ok-put-in-Loop t c =
    on_ok_then _ _ c.put_list.result c.put_list.ensures
    (λ h. loop_places c.args.places.now.items c.put-in-Loop.new.places.items c.put_list.new.places.items c.args.place c.args.member.now c.in-Loop.repeated c.deref.result.now c.in-Loop.is c.deref.ensures.value c.in_ok-put-in-Loop.ensures h)

pub put_member-returns-in_ok-put_arms-in-Block : goal.put_member-returns-in_ok-put_arms-in-Block
put_member-returns-in_ok-put_arms-in-Block t c =
    on_ok_then _ _ c.put-in-Block-2.result c.put-in-Block-2.ensures
    (λ h. block_places c.args.places.now.items c.put-in-Block.new.places.items c.put_arms.new.places.items c.put-in-Block-2.new.places.items c.args.place c.args.member.now c.in-Block.block c.label_of.result c.deref-in-Block.result.now c.deref-in-Block-2.result.now c.in-Block.is c.deref-in-Block.ensures.value c.deref-in-Block-2.ensures.value c.label_of.ensures c.in_ok-put-in-Block.ensures c.in_ok-put_arms-in-Block.ensures h)
