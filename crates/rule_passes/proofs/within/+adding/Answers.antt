use Rattle.std.proofs.Common.{◌≡◌, [], ◌∷◌, ◌++◌, append_assoc, sym, ap, subst, ◌∙◌}
use Rattle.meaning.specs.declared.syntax.Block.{out-Block}
use Rattle.meaning.specs.Statements.{broken_if}
use Rattle.meaning.specs.Surroundings.{Around, in_arm, told_in, told_in_arms}
use Rattle.meaning.specs.Trees.{arms_tree, item_tree, members_tree}
use Rattle.rule_passes.specs.Telling.{AddsIn, AddsLoop, AddsOne}
use Rattle.rule_passes.proofs.Adding.{arms_end, arms_more, block_alone, loop_alone, members_end, members_more, plain_alone}
use Rattle.rule_passes.proofs.Answering.{on_ok_then}
use Rattle.rule_passes.proofs.within.+adding.Goals as goal

pub add_in-loop-member-preserved : goal.add_in-loop-member-preserved
add_in-loop-member-preserved g t c =
    let breaks = g.W.Within.breaks in
    let first = breaks c.args.within.now in
    let m = c.member-item.result in
    let now = c.loop-member.pairs.items in
    let new = c.add_member.new.pairs.items in
    let before = c.loop-member.invariant in
    let behind = c.in_ok-add_member.ensures in
    record {
      so_far = λ a h.
          let added = subst (λ f. new ≡ now ++ told_in f c.args.rule a (members_tree (m ∷ []))) before.same (behind.told a (before.knows a h)) in
          members_more first c.args.rule a c.args.members.now c.loop-member.member-index m now new _ c.loop-member-test.true c.member-item.is added (before.so_far a h);
      knows = λ a h. behind.knows a (before.knows a h);
      same = behind.same ∙ before.same;
    }

pub add_in-returns-clause-told : goal.add_in-returns-clause-told
add_in-returns-clause-told g t c =
    λ a h. members_end (g.W.Within.breaks c.args.within.now) c.args.rule a c.args.members.now c.loop-member.member-index c.loop-member.pairs.items _ c.loop-member-test.false (c.loop-member.invariant.so_far a h)

pub add_in_arms-loop-arm-preserved : goal.add_in_arms-loop-arm-preserved
add_in_arms-loop-arm-preserved g t c =
    let knows = g.W.Within.knows in
    let breaks = g.W.Within.breaks in
    let first = breaks c.args.within.now in
    let rule = c.args.rule in
    let x = c.arm-item.result in
    let items = x.body.items in
    let now = c.loop-arm.pairs.items in
    let mid = c.add_at.new.pairs.items in
    let new = c.add_in.new.pairs.items in
    let before = c.loop-arm.invariant in
    let entered = c.in_ok-enter_arm.ensures.same ∙ before.same in
    let passed = c.in_ok-add_in.ensures.same ∙ entered in
    let inside : (a : Around) → knows c.args.within.now a → knows c.enter_arm.new.self (in_arm a (members_tree items)) = λ a h.
    subst (λ r. knows c.enter_arm.new.self (in_arm a (members_tree r))) c.deref.ensures.value (c.in_ok-enter_arm.ensures.knows a (before.knows a h)) in
    record {
      so_far = λ a h.
          let at = subst (λ f. mid ≡ now ++ broken_if (f a (item_tree x.head)) x.head.line rule) before.same (c.in_ok-add_at.ensures a (before.knows a h)) in
          let listed = subst (λ r. new ≡ mid ++ told_in (breaks c.enter_arm.new.self) rule (in_arm a (members_tree items)) (members_tree r)) c.deref-in-loop-arm.ensures.value (c.in_ok-add_in.ensures.told (in_arm a (members_tree items)) (inside a h)) in
          let whole = subst (λ f. new ≡ mid ++ told_in f rule (in_arm a (members_tree items)) (members_tree items)) entered listed in
          arms_more first rule a c.args.arms.now c.loop-arm.arm-index x now mid new _ c.loop-arm-test.true c.arm-item.is at whole (before.so_far a h);
      knows = λ a h.
          let behind = c.in_ok-add_in.ensures.knows (in_arm a (members_tree items)) (inside a h) in
          let left = subst (λ r. knows c.add_in.new.within (in_arm a (members_tree r))) (sym c.deref-in-loop-arm-2.ensures.value) behind in
          c.leave_arm.ensures.knows a left;
      same = c.leave_arm.ensures.same ∙ passed;
    }

pub add_in_arms-returns-clause-told : goal.add_in_arms-returns-clause-told
add_in_arms-returns-clause-told g t c =
    λ a h. arms_end (g.W.Within.breaks c.args.within.now) c.args.rule a c.args.arms.now c.loop-arm.arm-index c.loop-arm.pairs.items _ c.loop-arm-test.false (c.loop-arm.invariant.so_far a h)

pub add_member-returns-in-Plain-clause-told : goal.add_member-returns-in-Plain-clause-told
add_member-returns-in-Plain-clause-told g t c =
    let knows = g.W.Within.knows c.args.within.now in
    let breaks = g.W.Within.breaks c.args.within.now in
    let m = c.args.member.now in
    let old = c.args.pairs.now.items in
    let new = c.add_at.new.pairs.items in
    on_ok_then (AddsOne knows breaks c.args.rule c.in-Plain.item old new) (AddsIn knows breaks c.args.rule (m ∷ []) old new) c.add_at.result c.add_at.ensures
    (λ added a h. added a h ∙ ap (λ bs. old ++ bs) (sym (plain_alone breaks c.args.rule a m c.in-Plain.item c.in-Plain.is)))

pub add_member-returns-in-Loop-clause-told : goal.add_member-returns-in-Loop-clause-told
add_member-returns-in-Loop-clause-told g t c =
    let knows = g.W.Within.knows c.args.within.now in
    let breaks = g.W.Within.breaks c.args.within.now in
    let m = c.args.member.now in
    let old = c.args.pairs.now.items in
    let new = c.add_in_loop.new.pairs.items in
    on_ok_then (AddsLoop knows breaks c.args.rule c.in-Loop.outer old new) (AddsIn knows breaks c.args.rule (m ∷ []) old new) c.add_in_loop.result c.add_in_loop.ensures.told
    (λ added a h. added a h ∙ ap (λ bs. old ++ bs) (sym (loop_alone breaks c.args.rule a m c.in-Loop.outer c.in-Loop.is)))

pub add_member-returns-in_ok-add_in_arms-in-Block-clause-told :
    goal.add_member-returns-in_ok-add_in_arms-in-Block-clause-told
add_member-returns-in_ok-add_in_arms-in-Block-clause-told g t c =
    let knows = g.W.Within.knows c.args.within.now in
    let breaks = g.W.Within.breaks in
    let first = breaks c.args.within.now in
    let rule = c.args.rule in
    let m = c.args.member.now in
    let b = c.in-Block.block in
    let old = c.args.pairs.now.items in
    let mid = c.add_in_arms.new.pairs.items in
    let new = c.add_at-in-Block.new.pairs.items in
    let arms = c.in_ok-add_in_arms-in-Block.ensures in
    on_ok_then (AddsOne (g.W.Within.knows c.add_in_arms.new.within) (breaks c.add_in_arms.new.within) rule (out-Block b).end mid new) (AddsIn knows first rule (m ∷ []) old new) c.add_at-in-Block.result c.add_at-in-Block.ensures
    (λ added a h.
    let inside = subst (λ r. mid ≡ old ++ told_in_arms first rule a (arms_tree r)) c.deref.ensures.value (arms.told a h) in
    let end = subst (λ f. new ≡ mid ++ broken_if (f a (item_tree (out-Block b).end)) (out-Block b).end.line rule) arms.same (added a (arms.knows a h)) in
    end ∙ ap (λ bs. bs ++ broken_if (first a (item_tree (out-Block b).end)) (out-Block b).end.line rule) inside ∙ append_assoc old (told_in_arms first rule a (arms_tree (out-Block b).arms.items)) (broken_if (first a (item_tree (out-Block b).end)) (out-Block b).end.line rule)
    ∙ ap (λ bs. old ++ bs) (sym (block_alone first rule a m b c.in-Block.is)))
