use Rattle.std.proofs.lemmas.Result.{on_ok_weaker}
use Rattle.do_statements.proofs.Members.{of_block, of_loop}
use Rattle.do_statements.proofs.listing.+listing.Goals as goal

pub add_member-returns-in-Loop : goal.add_member-returns-in-Loop
add_member-returns-in-Loop t c =
    on_ok_weaker c.add_loop.result (λ h. of_loop c.args.around c.args.found.now.items c.add_loop.new.found.items c.args.member.now c.in-Loop.repeated c.in-Loop.is h) c.add_loop.ensures

pub add_member-returns-in-Block : goal.add_member-returns-in-Block
add_member-returns-in-Block t c =
    on_ok_weaker c.add_arms.result (λ h. of_block c.args.around c.args.found.now.items c.add_arms.new.found.items c.args.member.now c.in-Block.block c.deref.result.now c.in-Block.is c.deref.ensures.value h) c.add_arms.ensures
