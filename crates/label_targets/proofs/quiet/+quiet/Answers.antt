use Rattle.std.proofs.Common.{◌+◌, refl, sym, ap, ◌∙◌, arith, drop}
use Rattle.std.specs.Prelude.{◌&&◌}
use Rattle.std.proofs.lemmas.List.{drop_all}
use Rattle.meaning.specs.Trees.{none, arms_tree, member_before, members_tree}
use Rattle.label_targets.specs.Quiet.{are_quiet, is_quiet}
use Rattle.label_targets.proofs.Silent.{quiet_left, arms_quiet_left, quiet_range_is, quiet_block_is}
use Rattle.label_targets.proofs.quiet.+quiet.Goals as goal

pub is_quiet_list-loop-member-init : goal.is_quiet_list-loop-member-init
is_quiet_list-loop-member-init t c = record { left = refl }

pub is_quiet_list-returns-then-not-is_quiet_member : goal.is_quiet_list-returns-then-not-is_quiet_member
is_quiet_list-returns-then-not-is_quiet_member t c =
    let ms = c.args.members.now in
    let i = c.loop-member.member-index in
    sym (c.loop-member.invariant.left ∙ quiet_left ms i c.member-item.result c.loop-member-test.true c.member-item.is ∙ ap (λ b. b && is_quiet (members_tree (drop (i + 1) ms))) (sym c.if-not-is_quiet_member.ensures))

pub is_quiet_list-loop-member-preserved : goal.is_quiet_list-loop-member-preserved
is_quiet_list-loop-member-preserved t c =
    let ms = c.args.members.now in
    let i = c.loop-member.member-index in
    record {
      left = c.loop-member.invariant.left ∙ quiet_left ms i c.member-item.result c.loop-member-test.true c.member-item.is ∙ ap (λ b. b && is_quiet (members_tree (drop (i + 1) ms))) (sym c.if-not-is_quiet_member.ensures);
    }

pub is_quiet_list-returns : goal.is_quiet_list-returns
is_quiet_list-returns t c =
    sym (c.loop-member.invariant.left ∙ ap (λ ms. is_quiet (members_tree ms)) (drop_all c.loop-member.member-index c.args.members.now (omega arith)))

pub are_quiet_arms-loop-arm-init : goal.are_quiet_arms-loop-arm-init
are_quiet_arms-loop-arm-init t c = record { left = refl }

pub are_quiet_arms-returns-then-not-is_quiet_list : goal.are_quiet_arms-returns-then-not-is_quiet_list
are_quiet_arms-returns-then-not-is_quiet_list t c =
    let arms = c.args.arms.now in
    let i = c.loop-arm.arm-index in
    let body = c.if-not-is_quiet_list.ensures ∙ ap (λ ms. is_quiet (members_tree ms)) c.deref.ensures.value in
    sym (c.loop-arm.invariant.left ∙ arms_quiet_left arms i c.arm-item.result c.loop-arm-test.true c.arm-item.is ∙ ap (λ b. b && are_quiet (arms_tree (drop (i + 1) arms))) (sym body))

pub are_quiet_arms-loop-arm-preserved : goal.are_quiet_arms-loop-arm-preserved
are_quiet_arms-loop-arm-preserved t c =
    let arms = c.args.arms.now in
    let i = c.loop-arm.arm-index in
    let body = c.if-not-is_quiet_list.ensures ∙ ap (λ ms. is_quiet (members_tree ms)) c.deref.ensures.value in
    record {
      left = c.loop-arm.invariant.left ∙ arms_quiet_left arms i c.arm-item.result c.loop-arm-test.true c.arm-item.is ∙ ap (λ b. b && are_quiet (arms_tree (drop (i + 1) arms))) (sym body);
    }

pub are_quiet_arms-returns : goal.are_quiet_arms-returns
are_quiet_arms-returns t c =
    sym (c.loop-arm.invariant.left ∙ ap (λ xs. are_quiet (arms_tree xs)) (drop_all c.loop-arm.arm-index c.args.arms.now (omega arith)))

pub is_quiet_member-returns-in-Loop : goal.is_quiet_member-returns-in-Loop
is_quiet_member-returns-in-Loop t c =
    c.is_quiet_list.ensures ∙ ap (λ ms. is_quiet (members_tree ms)) c.deref.ensures.value ∙ sym (quiet_range_is c.in-Loop.repeated) ∙ ap (λ x. is_quiet (member_before x none)) (sym c.in-Loop.is)

pub is_quiet_member-returns-in-Block : goal.is_quiet_member-returns-in-Block
is_quiet_member-returns-in-Block t c =
    c.are_quiet_arms.ensures ∙ ap (λ xs. are_quiet (arms_tree xs)) c.deref-in-Block.ensures.value ∙ sym (quiet_block_is c.in-Block.block) ∙ ap (λ x. is_quiet (member_before x none)) (sym c.in-Block.is)
