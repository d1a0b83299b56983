use Rattle.std.proofs.Common.{◌≡◌, ◌<◌, length, rules, sym, ap, subst, ◌∙◌, to_z, of_z}
use Rattle.std.specs.Prelude.{slice_set}
use Rattle.std.specs.Int.{w32}
use Rattle.std.proofs.lemmas.Int.{to_z-of_z}
use Rattle.meaning.specs.Stores.{after_write}
use Rattle.private_view.specs.Views.{IsKept, Seen, value_at, world_seen, written_by}
use Rattle.private_view.proofs.Putting.{index, kept_held, kept_put, marks_more, puts_more, written_held}
use Rattle.private_view.proofs.Runs.{run_written}
use Rattle.private_view.proofs.paged.Paged.write_first.Goals as goal

pub returns-in_err-hold-clause-err : goal.returns-in_err-hold-clause-err
returns-in_err-hold-clause-err c =
    let i = c.self.inside in
    let s = c.args.self.now in
    let h = c.hold.ensures in
    let is = ap (λ (t : Seen). t.written) c.self.view_is in
    let held = written_held i.base.now i.written i.slots.items i.numbers.items i.values.items c.self.invariant.0 c.hold.new.slots.items c.hold.new.numbers.items c.hold.new.values.items h.kept h.same h.based h.placed h.long in
    let same = subst (λ (t : Seen). world_seen (record t { written = written_by i.written (value_at c.hold.new.slots.items c.hold.new.values.items) }) ≡ world_seen s) (sym c.self.view_is) (ap (λ w. world_seen (record s { written = w })) (held ∙ is)) in
    search (rules, same)

pub returns-in_err-set-clause-err : goal.returns-in_err-set-clause-err
returns-in_err-set-clause-err c =
    let i = c.self.inside in
    let s = c.args.self.now in
    let h = c.hold.ensures in
    let is = ap (λ (t : Seen). t.written) c.self.view_is in
    let held = written_held i.base.now i.written i.slots.items i.numbers.items i.values.items c.self.invariant.0 c.hold.new.slots.items c.hold.new.numbers.items c.hold.new.values.items h.kept h.same h.based h.placed h.long in
    let e = ap (λ m. written_by m (value_at c.hold.new.slots.items c.hold.new.values.items)) c.in_err-set.ensures.err in
    let same = subst (λ (t : Seen). world_seen (record t { written = written_by c.set.new.self (value_at c.hold.new.slots.items c.hold.new.values.items) }) ≡ world_seen s) (sym c.self.view_is) (ap (λ w. world_seen (record s { written = w })) (e ∙ held ∙ is)) in
    search (rules, same)

pub invariant_of-self-2 : goal.invariant_of-self-2
invariant_of-self-2 c =
    let i = c.self.inside in
    let k = c.args.cell.0 in
    let v = to_z w32 (of_z w32 c.args.value) in
    let h = c.hold.ensures in
    let S = c.hold.new.slots.items in
    let N = c.hold.new.numbers.items in
    let V = c.hold.new.values.items in
    let lt : k < length i.base.now = subst (λ (t : Seen). k < length t.base) (sym c.self.view_is) c.requires in
    let held = kept_held i.base.now i.written i.slots.items i.numbers.items i.values.items c.self.invariant.0 S N V h.kept h.same h.based h.placed h.long in
    let e = c.put_value.ensures ∙ ap (λ ss. slice_set V (index ss N k) v) c.deref.ensures.value in
    let more = marks_more i.written c.set.new.self k c.in_ok-set.ensures.ok in
    let ends = c.end_before-self-inside.ensures in
    (subst (λ vs. IsKept i.base.now c.set.new.self S N vs) (sym e) (kept_put i.base.now i.written S N V held k v lt c.in_ok-hold.ensures.copied c.set.new.self more), run_written i.run_from i.run_until i.exposed i.written c.self.invariant.1 k c.end_before-self-inside.result c.set.new.self more ends.less ends.out)

pub returns-clause-ok : goal.returns-clause-ok
returns-clause-ok c =
    let i = c.self.inside in
    let s = c.args.self.now in
    let k = c.args.cell.0 in
    let v = to_z w32 (of_z w32 c.args.value) in
    let h = c.hold.ensures in
    let S = c.hold.new.slots.items in
    let N = c.hold.new.numbers.items in
    let V = c.hold.new.values.items in
    let M = c.set.new.self in
    let lt : k < length i.base.now = subst (λ (t : Seen). k < length t.base) (sym c.self.view_is) c.requires in
    let is = ap (λ (t : Seen). t.written) c.self.view_is in
    let held = kept_held i.base.now i.written i.slots.items i.numbers.items i.values.items c.self.invariant.0 S N V h.kept h.same h.based h.placed h.long in
    let same = written_held i.base.now i.written i.slots.items i.numbers.items i.values.items c.self.invariant.0 S N V h.kept h.same h.based h.placed h.long in
    let e = c.put_value.ensures ∙ ap (λ ss. slice_set V (index ss N k) v) c.deref.ensures.value in
    subst (λ (t : Seen). world_seen (record t { written = written_by M (value_at S c.put_value.new.values.items) }) ≡ after_write k v (world_seen s)) (sym c.self.view_is) (ap (λ vs. world_seen (record s { written = written_by M (value_at S vs) })) e ∙ puts_more i.base.now i.written S N V held k v lt c.in_ok-hold.ensures.copied M (marks_more i.written M k c.in_ok-set.ensures.ok) s (same ∙ is)) ∙ ap (λ x. after_write k x (world_seen s)) (to_z-of_z w32 c.args.value c.ranges.value)
