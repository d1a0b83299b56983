use Rattle.std.proofs.Common.{◌≡◌, ◌<◌, true, length, sym, ap, subst, ◌∙◌, to_z, of_z}
use Rattle.std.specs.Prelude.{slice_set}
use Rattle.std.specs.Int.{w32}
use Rattle.std.proofs.lemmas.Int.{to_z-of_z}
use Rattle.std.specs.FinSet as set
use Rattle.meaning.specs.Stores.{after_write}
use Rattle.private_view.specs.Views.{Seen, value_at, world_seen, written_by}
use Rattle.private_view.proofs.Looking.{marks_same}
use Rattle.private_view.proofs.Putting.{index, puts_more}
use Rattle.private_view.proofs.paged.PagedStore.write.Goals as goal

pub returns-then-has-clause-ok : goal.returns-then-has-clause-ok
returns-then-has-clause-ok c =
    let i = c.self.inside in
    let s = c.args.self.now in
    let k = c.args.cell.0 in
    let v = to_z w32 (of_z w32 c.args.value) in
    let marked : set.contains i.written k ≡ true = sym c.has.ensures ∙ c.if-has.true in
    let lt : k < length i.base.now = subst (λ (t : Seen). k < length t.base) (sym c.self.view_is) c.requires in
    let is = ap (λ (t : Seen). t.written) c.self.view_is in
    let e = c.put_value.ensures ∙ ap (λ ss. slice_set i.values.items (index ss i.numbers.items k) v) c.deref.ensures.value in
    subst (λ (t : Seen). world_seen (record t { written = written_by i.written (value_at i.slots.items c.put_value.new.values.items) }) ≡ after_write k v (world_seen s)) (sym c.self.view_is) (ap (λ vs. world_seen (record s { written = written_by i.written (value_at i.slots.items vs) })) e ∙ puts_more i.base.now i.written i.slots.items i.numbers.items i.values.items c.self.invariant.0 k v lt (c.self.invariant.0.paged.copied k marked) i.written (marks_same i.written k marked) s is) ∙ ap (λ x. after_write k x (world_seen s)) (to_z-of_z w32 c.args.value c.ranges.value)
