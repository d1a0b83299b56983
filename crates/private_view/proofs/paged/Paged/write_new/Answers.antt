use Rattle.std.proofs.Common.{◌≡◌, ◌<◌, ◌/◌, length, sym, ap, subst, ◌∙◌, to_z, of_z}
use Rattle.std.specs.Prelude.{slice_set}
use Rattle.std.specs.Int.{w32}
use Rattle.std.proofs.lemmas.Int.{to_z-of_z}
use Rattle.meaning.specs.Stores.{after_write}
use Rattle.private_view.specs.Views.{IsCopied, IsKept, Seen, value_at, world_seen, written_by}
use Rattle.private_view.proofs.Putting.{index, kept_put, marks_more, puts_more}
use Rattle.private_view.proofs.Runs.{run_written}
use Rattle.private_view.proofs.paged.Paged.write_new.Goals as goal

copied : (c : goal.After-put_value) → IsCopied c.self.inside.slots.items c.self.inside.numbers.items (c.args.cell.0 / 64)
copied c =
    subst (λ ss. IsCopied ss c.self.inside.numbers.items (c.args.cell.0 / 64)) c.deref.ensures.value
    (subst (λ ns. IsCopied c.deref.result.now ns (c.args.cell.0 / 64)) c.deref-2.ensures.value (c.is_copied.ensures.0 c.if-is_copied.true))

pub invariant_of-self : goal.invariant_of-self
invariant_of-self c =
    let i = c.self.inside in
    let k = c.args.cell.0 in
    let v = to_z w32 (of_z w32 c.args.value) in
    let lt : k < length i.base.now = subst (λ (t : Seen). k < length t.base) (sym c.self.view_is) c.requires in
    let e = c.put_value.ensures ∙ ap (λ ss. slice_set i.values.items (index ss i.numbers.items k) v) c.deref-then-set_at_hand.ensures.value in
    let more = marks_more i.written c.set_at_hand.new.self k (c.set_at_hand.ensures.yes c.if-set_at_hand.true) in
    let ends = c.end_before-self-inside.ensures in
    (subst (λ vs. IsKept i.base.now c.set_at_hand.new.self i.slots.items i.numbers.items vs) (sym e) (kept_put i.base.now i.written i.slots.items i.numbers.items i.values.items c.self.invariant.0 k v lt (copied c) c.set_at_hand.new.self more), run_written i.run_from i.run_until i.exposed i.written c.self.invariant.1 k c.end_before-self-inside.result c.set_at_hand.new.self more ends.less ends.out)

pub returns-then-set_at_hand-clause-ok : goal.returns-then-set_at_hand-clause-ok
returns-then-set_at_hand-clause-ok c =
    let i = c.self.inside in
    let s = c.args.self.now in
    let k = c.args.cell.0 in
    let v = to_z w32 (of_z w32 c.args.value) in
    let M = c.set_at_hand.new.self in
    let lt : k < length i.base.now = subst (λ (t : Seen). k < length t.base) (sym c.self.view_is) c.requires in
    let is = ap (λ (t : Seen). t.written) c.self.view_is in
    let e = c.put_value.ensures ∙ ap (λ ss. slice_set i.values.items (index ss i.numbers.items k) v) c.deref-then-set_at_hand.ensures.value in
    subst (λ (t : Seen). world_seen (record t { written = written_by M (value_at i.slots.items c.put_value.new.values.items) }) ≡ after_write k v (world_seen s)) (sym c.self.view_is) (ap (λ vs. world_seen (record s { written = written_by M (value_at i.slots.items vs) })) e ∙ puts_more i.base.now i.written i.slots.items i.numbers.items i.values.items c.self.invariant.0 k v lt (copied c) M (marks_more i.written M k (c.set_at_hand.ensures.yes c.if-set_at_hand.true)) s is) ∙ ap (λ x. after_write k x (world_seen s)) (to_z-of_z w32 c.args.value c.ranges.value)
