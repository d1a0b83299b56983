use Rattle.std.proofs.Common.{◌≡◌, List, ◌∷◌, ◌++◌, sym, ap, ◌∙◌, Option, Some, None, option_map}
use Rattle.std.specs.Option.{option_or}
use Rattle.meaning.specs.declared.syntax.Block.{out-Block}
use Rattle.meaning.specs.Surroundings.{own_items}
use Rattle.meaning.specs.Syntax.{ItemTree}
use Rattle.meaning.specs.Trees.{arms_tree, item_tree, member_before, members_tree, none}
use Rattle.rule_passes.proofs.Answering.{ok_then}
use Rattle.list_culprits.specs.Seats.{IsSeatIn, IsSeatInside, Opener, range_of, seat, seat_if, seat_under}
use Rattle.list_culprits.specs.declared.seats.Seat.{Seat}
use Rattle.list_culprits.proofs.Seating.{arm_first, block_seat, loop_seat, member_first, passing, passing_arms}
use Rattle.list_culprits.proofs.seats.+seats.Goals as goal

pub seat_in-returns-in-Some : goal.seat_in-returns-in-Some
seat_in-returns-in-Some g t c = λ os reach.
    let test = g.T.ItemTest.passes c.args.test.now in
    let under = seat_under os reach in
    sym (member_first test os reach c.args.members.now c.loop-member.member-index c.member-item.result (Some (under c.in-Some.seat)) c.loop-member-test.true c.member-item.is (ap (option_map under) (sym c.in-Some.is) ∙ c.in_ok-seat.ensures os reach))
    ∙ c.loop-member.invariant os reach

pub seat_in-loop-member-preserved : goal.seat_in-loop-member-preserved
seat_in-loop-member-preserved g t c = λ os reach.
    let test = g.T.ItemTest.passes c.args.test.now in
    sym (member_first test os reach c.args.members.now c.loop-member.member-index c.member-item.result None c.loop-member-test.true c.member-item.is (ap (option_map (seat_under os reach)) (sym c.in-None.is) ∙ c.in_ok-seat.ensures os reach))
    ∙ c.loop-member.invariant os reach

pub seat_in_arms-returns-in-Some : goal.seat_in_arms-returns-in-Some
seat_in_arms-returns-in-Some g t c = λ os reach.
    let test = g.T.ItemTest.passes c.args.test.now in
    let under = seat_under os reach in
    sym (arm_first test os reach c.args.arms.now c.loop-arm.arm-index c.arm-item.result (Some (under c.in-Some.seat)) c.loop-arm-test.true c.arm-item.is (ap (option_map under) (sym c.in-Some.is) ∙ c.in_ok-seat.ensures os reach))
    ∙ c.loop-arm.invariant os reach

pub seat_in_arms-loop-arm-preserved : goal.seat_in_arms-loop-arm-preserved
seat_in_arms-loop-arm-preserved g t c = λ os reach.
    let test = g.T.ItemTest.passes c.args.test.now in
    sym (arm_first test os reach c.args.arms.now c.loop-arm.arm-index c.arm-item.result None c.loop-arm-test.true c.arm-item.is (ap (option_map (seat_under os reach)) (sym c.in-None.is) ∙ c.in_ok-seat.ensures os reach))
    ∙ c.loop-arm.invariant os reach

pub seat_in_member-returns-in-None : goal.seat_in_member-returns-in-None
seat_in_member-returns-in-None g t c =
    let test = g.T.ItemTest.passes c.args.test.now in
    let outer = c.in-Loop.outer in
    let head = item_tree outer.head in
    let range = members_tree outer.range.items in
    ok_then
    (λ (found : Option Seat). IsSeatInside test (range_of head) (members_tree c.deref.result.now) found)
    (λ (found : Option Seat). IsSeatIn test (member_before c.args.member.now none) found)
    c.seat_inside.result c.seat_inside.ensures
    (λ found inside. λ os reach.
    let under = range_of head ∷ os in
    inside os reach ∙ ap (λ r. passing test under (own_items (members_tree r) ++ reach) (members_tree r)) c.deref.ensures.value
    ∙ ap (λ o. option_or o (passing test under (own_items range ++ reach) range)) (c.in-None.ensures os reach)
    ∙ loop_seat test os reach c.args.member.now outer c.in-Loop.is)

pub seat_in_member-returns-in-Some-2 : goal.seat_in_member-returns-in-Some-2
seat_in_member-returns-in-Some-2 g t c = λ os reach.
    let test = g.T.ItemTest.passes c.args.test.now in
    let end = item_tree (out-Block c.in-Block.block).end in
    ap (λ o. option_or o (seat_if (test end) (seat os reach end))) (ap (option_map (seat_under os reach)) (sym c.in-Some-2.is) ∙ c.in_ok-seat-in-Block.ensures os reach ∙ ap (λ r. passing_arms test os reach (arms_tree r)) c.deref-in-Block.ensures.value)
    ∙ block_seat test os reach c.args.member.now c.in-Block.block c.in-Block.is

pub seat_in_member-returns-in-None-2 : goal.seat_in_member-returns-in-None-2
seat_in_member-returns-in-None-2 g t c = λ os reach.
    let test = g.T.ItemTest.passes c.args.test.now in
    let end = item_tree (out-Block c.in-Block.block).end in
    c.seat_here-in-None-2.ensures os reach
    ∙ ap (λ o. option_or o (seat_if (test end) (seat os reach end))) (ap (option_map (seat_under os reach)) (sym c.in-None-2.is) ∙ c.in_ok-seat-in-Block.ensures os reach ∙ ap (λ r. passing_arms test os reach (arms_tree r)) c.deref-in-Block.ensures.value)
    ∙ block_seat test os reach c.args.member.now c.in-Block.block c.in-Block.is
