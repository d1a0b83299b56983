use Rattle.std.proofs.Common.{◌++◌, map, ap, ◌∙◌}
use Rattle.std.proofs.lemmas.List.{map-append}
use Rattle.meaning.specs.Surroundings.{head_of}
use Rattle.meaning.specs.Trees.{arms_tree}
use Rattle.symbols.specs.Listed.{tree_at, trees_at}
use Rattle.symbols.proofs.Flattened.{then_one}
use Rattle.list_culprits.proofs.Seating.{own_block, own_loop, own_more, own_plain}
use Rattle.list_culprits.proofs.seats.add_own.Goals as goal
use Rattle.list_culprits.proofs.seats.add_own.Goals.{in-Plain+in_ok-push-in-Plain, in-Loop+in_ok-push-in-Loop, in-Block+in_ok-add_first-in-Block+in_ok-push-in-Block}

pub loop-member-preserved : goal.loop-member-preserved
loop-member-preserved c =
    let ms = c.args.members.now in
    let i = c.loop-member.member-index in
    let m = c.member-item.result in
    let lt = c.loop-member-test.true in
    let so_far = c.loop-member.invariant in
    elim c.match-member.branch [
      | in-Plain+in_ok-push-in-Plain w ↦
          let added = ap (λ v. trees_at v.items) w.reach-is ∙ ap trees_at w.in_ok-push-in-Plain.ensures.items ∙ map-append tree_at c.loop-member.reach.items _ in
          own_more ms i m _ _ _ _ lt c.member-item.is (own_plain m _ w.in-Plain.is) added so_far
      | in-Loop+in_ok-push-in-Loop w ↦
          let added = ap (λ v. trees_at v.items) w.reach-is ∙ ap trees_at w.in_ok-push-in-Loop.ensures.items ∙ map-append tree_at c.loop-member.reach.items _ in
          own_more ms i m _ _ _ _ lt c.member-item.is (own_loop m _ w.in-Loop.is) added so_far
      | in-Block+in_ok-add_first-in-Block+in_ok-push-in-Block w ↦
          let first = w.in_ok-add_first-in-Block.ensures ∙ ap (λ r. trees_at c.loop-member.reach.items ++ head_of (arms_tree r)) w.deref.ensures.value in
          let last = ap (λ v. trees_at v.items) w.reach-is ∙ ap trees_at w.in_ok-push-in-Block.ensures.items ∙ map-append tree_at w.add_first.new.reach.items _ in
          own_more ms i m _ _ _ _ lt c.member-item.is (own_block m _ w.in-Block.is) (then_one _ _ _ _ _ first last) so_far
    ]
