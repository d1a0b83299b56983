use Rattle.std.proofs.Common.{◌++◌, map, ap, ◌∙◌}
use Rattle.std.proofs.lemmas.List.{map-append}
use Rattle.meaning.specs.Trees.{arms_tree, flat, flat_arms, members_tree}
use Rattle.symbols.specs.Listed.{tree_at}
use Rattle.symbols.proofs.Flattened.{arms_more, block_piece, flat_more, plain_piece, loop_piece, then_one, two_pieces}
use Rattle.symbols.proofs.items.+items.Goals as goal
use Rattle.symbols.proofs.items.+items.Goals.{add_items-in-Plain+in_ok-push-in-Plain, add_items-in-Loop+in_ok-push-in-Loop+in_ok-add_items-in-Loop, add_items-in-Block+in_ok-add_arms-in-Block+in_ok-push-in-Block}

pub add_items-loop-member-preserved : goal.add_items-loop-member-preserved
add_items-loop-member-preserved t c =
    let ms = c.args.members.now in
    let i = c.loop-member.member-index in
    let m = c.member-item.result in
    let lt = c.loop-member-test.true in
    let so_far = c.loop-member.invariant in
    elim c.match-member.branch [
      | add_items-in-Plain+in_ok-push-in-Plain w ↦
          let added = ap (λ v. map tree_at v.items) w.items-is ∙ ap (map tree_at) w.in_ok-push-in-Plain.ensures.items ∙ map-append tree_at c.loop-member.items.items _ in
          flat_more ms i m _ _ _ _ lt c.member-item.is (plain_piece m _ w.in-Plain.is) added so_far
      | add_items-in-Loop+in_ok-push-in-Loop+in_ok-add_items-in-Loop w ↦
          let head = ap (map tree_at) w.in_ok-push-in-Loop.ensures.items ∙ map-append tree_at c.loop-member.items.items _ in
          let range = ap (λ v. map tree_at v.items) w.items-is ∙ w.in_ok-add_items-in-Loop.ensures ∙ ap (λ r. map tree_at w.push-in-Loop.new.self.items ++ flat (members_tree r)) w.deref.ensures.value in
          flat_more ms i m _ _ _ _ lt c.member-item.is (loop_piece m _ w.in-Loop.is) (two_pieces _ _ _ _ _ head range) so_far
      | add_items-in-Block+in_ok-add_arms-in-Block+in_ok-push-in-Block w ↦
          let arms = w.in_ok-add_arms-in-Block.ensures ∙ ap (λ r. map tree_at c.loop-member.items.items ++ flat_arms (arms_tree r)) w.deref-in-Block.ensures.value in
          let last = ap (λ v. map tree_at v.items) w.items-is ∙ ap (map tree_at) w.in_ok-push-in-Block.ensures.items ∙ map-append tree_at w.add_arms.new.items.items _ in
          flat_more ms i m _ _ _ _ lt c.member-item.is (block_piece m _ w.in-Block.is) (then_one _ _ _ _ _ arms last) so_far
    ]

pub add_arms-loop-arm-preserved : goal.add_arms-loop-arm-preserved
add_arms-loop-arm-preserved t c =
    let head = ap (map tree_at) c.in_ok-push.ensures.items ∙ map-append tree_at c.loop-arm.items.items _ in
    let body = c.in_ok-add_items.ensures ∙ ap (λ r. map tree_at c.push.new.self.items ++ flat (members_tree r)) c.deref.ensures.value in
    arms_more c.args.arms.now c.loop-arm.arm-index c.arm-item.result _ _ _ c.loop-arm-test.true c.arm-item.is (two_pieces _ _ _ _ _ head body) c.loop-arm.invariant
