use Rattle.std.proofs.Common.{◌+◌, ◌-◌, sym, ap, ◌∙◌, drop}
use Rattle.meaning.specs.declared.syntax.Block.{out-Block}
use Rattle.meaning.specs.LabelRules.{has_label, is_label_at}
use Rattle.meaning.specs.Surroundings.{head_of}
use Rattle.meaning.specs.Trees.{arms_tree, item_tree, members_tree}
use Rattle.std.specs.Prelude.{count_by}
use Rattle.statement_rules.specs.Counted.{count_in, one_more, one_less, times}
use Rattle.statement_rules.proofs.Counting.{plain_times, loop_times, block_times, taken_on, taken_both, left_times}
use Rattle.statement_rules.proofs.reach.take_list.Goals as goal
use Rattle.statement_rules.proofs.reach.take_list.Goals.{in-Plain, in-Loop, in-Block}

pub loop-member-preserved : goal.loop-member-preserved
loop-member-preserved c = λ s.
    let ms = c.args.members.now in
    let i = c.loop-member.member-index in
    let m = c.member-item.result in
    let rest = members_tree (drop (i + 1) ms) in
    let old = count_in c.loop-member.lines s in
    let before = ap (λ n. old - n) (sym (left_times s ms i m c.loop-member-test.true c.member-item.is)) ∙ c.loop-member.invariant s in
    elim c.match-member.branch [
      | in-Plain w ↦
          ap (λ n. n - times s rest) (ap (λ x. count_in x s) w.lines-is ∙ w.take_label.ensures s) ∙ taken_on (is_label_at (item_tree w.in-Plain.item).label s) (times s rest) old
          ∙ ap (λ n. old - n) (sym (plain_times s m _ rest w.in-Plain.is)) ∙ before
      | in-Loop w ↦
          ap (λ n. n - times s rest) (ap (λ x. count_in x s) w.lines-is ∙ w.take_label-in-Loop.ensures s) ∙ taken_on (is_label_at (item_tree w.in-Loop.outer.head).label s) (times s rest) old
          ∙ ap (λ n. old - n) (sym (loop_times s m _ rest w.in-Loop.is)) ∙ before
      | in-Block w ↦
          let first = is_label_at w.label_of_first.result s in
          let end = is_label_at (item_tree (out-Block w.in-Block.block).end).label s in
          let here = sym (w.label_of_first.ensures s) ∙ ap (λ r. count_by (has_label s) (head_of (arms_tree r))) w.deref.ensures.value in
          ap (λ n. n - times s rest) (ap (λ x. count_in x s) w.lines-is ∙ w.take_label-in-Block-2.ensures s ∙ ap (one_less end) (w.take_label-in-Block.ensures s)) ∙ taken_both first end (times s rest) old
          ∙ ap (λ n. old - (n + one_more end (times s rest))) here
          ∙ ap (λ n. old - n) (sym (block_times s m _ rest w.in-Block.is)) ∙ before
    ]
