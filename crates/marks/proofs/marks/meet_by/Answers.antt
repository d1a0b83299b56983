use Rattle.std.proofs.Common.{rules, length, sym, ◌∙◌}
use Rattle.std.proofs.lemmas.Bool.{true≢false}
use Rattle.marks.proofs.Words.{masks_more, no_more_masks, one_ends, told_none}
use Rattle.marks.proofs.marks.meet_by.Goals.{else-mask-ne0-via-then-mask-ne0+else-meet_groups, else-mask-ne0-via-else-mask-ne0}
use Rattle.marks.proofs.marks.meet_by.Goals as goal

pub loop-at-init : goal.loop-at-init
loop-at-init c = search rules

pub loop-at-preserved : goal.loop-at-preserved
loop-at-preserved c =
    masks_more c.args.a.now c.args.b.now c.args.mine.now c.args.others.now c.loop-at.at c.loop-at.invariant (elim c.else-mask-ne0.branch [
      | else-mask-ne0-via-then-mask-ne0+else-meet_groups w ↦ λ m. true≢false (sym (w.meet_groups.ensures.1 m) ∙ w.if-meet_groups.false)
      | else-mask-ne0-via-else-mask-ne0 w ↦ told_none _ _ _ _ _ w.if-mask-ne0.false
    ])

pub returns-clause-met : goal.returns-clause-met
returns-clause-met c =
    let ends = one_ends (length c.args.mine.now) (length c.args.others.now) c.min-at-end.result c.loop-at.at c.min-at-end.ensures c.loop-at-test.false in
    (λ t. absurd (true≢false (sym t)), λ m. absurd (no_more_masks c.args.a.now c.args.b.now c.args.mine.now c.args.others.now c.loop-at.at ends c.loop-at.invariant m))

pub returns-clause-words : goal.returns-clause-words
returns-clause-words c = λ k. let fits = c.type_inv.a k in search rules
