use Rattle.std.proofs.Common.{◌+◌, ◌-◌, Some, None, sym, ap, ◌∙◌, arith}
use Rattle.std.specs.Prelude.{if◌then◌else◌}
use Rattle.std.specs.List.{range_with_len}
use Rattle.meaning.specs.Initial.{and_also}
use Rattle.data_rules.specs.DataSlots.{give_slots, slots_at}
use Rattle.data_rules.proofs.Slotting.{slot_step, slots_done, stands_behind}
use Rattle.data_rules.proofs.filling.give_each.Goals as goal

pub returns-then-not-branch-clause-given : goal.returns-then-not-branch-clause-given
returns-then-not-branch-clause-given c = λ i stands.
    let t = c.args.data_type in
    let b = c.loop-behind.behind in
    let m = c.args.count in
    let old = slots_at c.loop-behind.slots c.loop-behind.values c.loop-behind.way in
    sym (c.loop-behind.invariant.left i stands) ∙ slot_step t i b m old c.loop-behind-test.true
    ∙ ap (λ o. and_also o (give_slots t (range_with_len (i + (b + 1)) (m - (b + 1)))))
    (c.in_ok-give.ensures.given (i + b) (stands_behind c.args.first m i b stands c.loop-behind-test.true) ∙ ap (λ x. if x then Some (slots_at c.give.new.slots c.give.new.values c.give.new.way) else None) c.if-not-branch.true)

pub loop-behind-preserved : goal.loop-behind-preserved
loop-behind-preserved c = record {
  left = λ i stands.
      let t = c.args.data_type in
      let b = c.loop-behind.behind in
      let m = c.args.count in
      let old = slots_at c.loop-behind.slots c.loop-behind.values c.loop-behind.way in
      sym (slot_step t i b m old c.loop-behind-test.true
      ∙ ap (λ o. and_also o (give_slots t (range_with_len (i + (b + 1)) (m - (b + 1)))))
      (c.in_ok-give.ensures.given (i + b) (stands_behind c.args.first m i b stands c.loop-behind-test.true) ∙ ap (λ x. if x then Some (slots_at c.give.new.slots c.give.new.values c.give.new.way) else None) c.if-not-branch.false))
      ∙ c.loop-behind.invariant.left i stands;
}

pub returns-clause-given : goal.returns-clause-given
returns-clause-given c = λ i stands.
    sym (c.loop-behind.invariant.left i stands) ∙ slots_done c.args.data_type i c.loop-behind.behind c.args.count (slots_at c.loop-behind.slots c.loop-behind.values c.loop-behind.way) (omega (arith, c.loop-behind-test.false))
