use Rattle.std.proofs.Common.{◌+◌, sym, ap, ◌∙◌, drop}
use Rattle.meaning.specs.declared.syntax.Block.{out-Block}
use Rattle.meaning.specs.LabelRules.{has_label, is_label_at}
use Rattle.meaning.specs.Surroundings.{head_of}
use Rattle.meaning.specs.Trees.{arms_tree, item_tree, members_tree}
use Rattle.std.specs.Prelude.{count_by}
use Rattle.statement_rules.specs.Counted.{count_in, one_more, times}
use Rattle.statement_rules.proofs.Counting.{plain_times, loop_times, block_times, moved_on, moved_both, left_times, zero_sum}
use Rattle.std.proofs.lemmas.List.{drop_all}
use Rattle.statement_rules.proofs.reach.add_list.Goals as goal
use Rattle.statement_rules.proofs.reach.add_list.Goals.{in-Plain+in_ok-add_label-in-Plain, in-Loop+in_ok-add_label-in-Loop, in-Block+in_ok-add_label-in-Block+in_ok-add_label-in-Block-2}

pub loop-member-preserved : goal.loop-member-preserved
loop-member-preserved c =
    let ms = c.args.members.now in
    let i = c.loop-member.member-index in
    let m = c.member-item.result in
    let rest = members_tree (drop (i + 1) ms) in
    record {
      counted = λ s.
          let old = count_in c.loop-member.lines s in
          let before = ap (λ n. n + old) (sym (left_times s ms i m c.loop-member-test.true c.member-item.is)) ∙ c.loop-member.invariant.counted s in
          elim c.match-member.branch [
            | in-Plain+in_ok-add_label-in-Plain w ↦
                ap (λ n. times s rest + n) (ap (λ x. count_in x s) w.lines-is ∙ w.in_ok-add_label-in-Plain.ensures.counted s) ∙ moved_on (is_label_at (item_tree w.in-Plain.item).label s) (times s rest) old
                ∙ ap (λ n. n + old) (sym (plain_times s m _ rest w.in-Plain.is)) ∙ before
            | in-Loop+in_ok-add_label-in-Loop w ↦
                ap (λ n. times s rest + n) (ap (λ x. count_in x s) w.lines-is ∙ w.in_ok-add_label-in-Loop.ensures.counted s) ∙ moved_on (is_label_at (item_tree w.in-Loop.outer.head).label s) (times s rest) old
                ∙ ap (λ n. n + old) (sym (loop_times s m _ rest w.in-Loop.is)) ∙ before
            | in-Block+in_ok-add_label-in-Block+in_ok-add_label-in-Block-2 w ↦
                let first = is_label_at w.label_of_first.result s in
                let end = is_label_at (item_tree (out-Block w.in-Block.block).end).label s in
                let here = sym (w.label_of_first.ensures s) ∙ ap (λ r. count_by (has_label s) (head_of (arms_tree r))) w.deref.ensures.value in
                ap (λ n. times s rest + n) (ap (λ x. count_in x s) w.lines-is ∙ w.in_ok-add_label-in-Block-2.ensures.counted s ∙ ap (one_more end) (w.in_ok-add_label-in-Block.ensures.counted s)) ∙ moved_both first end (times s rest) old
                ∙ ap (λ n. (n + one_more end (times s rest)) + old) here
                ∙ ap (λ n. n + old) (sym (block_times s m _ rest w.in-Block.is)) ∙ before
          ];
      small = λ s le.
          let before = sym (left_times s ms i m c.loop-member-test.true c.member-item.is) ∙ c.loop-member.invariant.small s le in
          elim c.match-member.branch [
            | in-Plain+in_ok-add_label-in-Plain w ↦
                sym (plain_times s m _ rest w.in-Plain.is ∙ ap (λ b. one_more b (times s rest)) (w.add_label.ensures.small s le)) ∙ before
            | in-Loop+in_ok-add_label-in-Loop w ↦
                sym (loop_times s m _ rest w.in-Loop.is ∙ ap (λ b. one_more b (times s rest)) (w.add_label-in-Loop.ensures.small s le)) ∙ before
            | in-Block+in_ok-add_label-in-Block+in_ok-add_label-in-Block-2 w ↦
                let here = sym (w.label_of_first.ensures s) ∙ ap (λ r. count_by (has_label s) (head_of (arms_tree r))) w.deref.ensures.value in
                let none = sym here ∙ ap (λ b. one_more b 0) (w.add_label-in-Block.ensures.small s le) in
                sym (block_times s m _ rest w.in-Block.is ∙ ap (λ b. count_by (has_label s) (head_of (arms_tree (out-Block w.in-Block.block).arms.items)) + one_more b (times s rest)) (w.add_label-in-Block-2.ensures.small s le) ∙ ap (λ n. n + times s rest) none ∙ zero_sum (times s rest)) ∙ before
          ];
    }

pub returns-clause-small : goal.returns-clause-small
returns-clause-small c = λ s le.
    sym (c.loop-member.invariant.small s le) ∙ ap (λ xs. times s (members_tree xs)) (drop_all c.loop-member.member-index c.args.members.now c.loop-member-test.false)
