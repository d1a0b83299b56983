use Rattle.label_targets.proofs.Putting.{on_ok_then, loop_loud, block_loud}
use Rattle.label_targets.proofs.output.+output.Goals as goal

pub put_member-returns-in_ok-put-in-Loop : goal.put_member-returns-in_ok-put-in-Loop
put_member-returns-in_ok-put-in-Loop t c =
    on_ok_then _ _ c.put_list.result c.put_list.ensures
    (λ h. loop_loud c.args.lines.now c.put.new.lines c.put_list.new.lines c.args.member.now c.in-Loop.repeated c.deref.result.now c.in-Loop.is c.deref.ensures.value c.in_ok-put-in-Loop.ensures h)

pub put_member-returns-in-Block : goal.put_member-returns-in-Block
put_member-returns-in-Block t c =
    on_ok_then _ _ c.put_arms.result c.put_arms.ensures
    (λ h. block_loud c.args.lines.now c.put_arms.new.lines c.args.member.now c.in-Block.block c.deref-in-Block.result.now c.in-Block.is c.deref-in-Block.ensures.value h)
