use Rattle.std.proofs.Common.{◌≡◌, ◌/◌, true, sym, ap, subst, ◌∙◌, to_z, of_z}
use Rattle.std.specs.Prelude.{slice_set}
use Rattle.std.specs.Int.{w32}
use Rattle.std.proofs.lemmas.Int.{to_z-of_z}
use Rattle.std.specs.FinSet as set
use Rattle.std.specs.FinMap as map
use Rattle.private_view.specs.Views.{IsCopied, IsKept, Seen, value_at, written_by}
use Rattle.private_view.proofs.Looking.{marked_is, marks_same}
use Rattle.private_view.proofs.Fronts.{given_one}
use Rattle.private_view.proofs.Putting.{index, kept_put, puts_more}
use Rattle.private_view.proofs.paged.Paged.put_again.Goals as goal

pub put_value-requires-clause-copied : goal.put_value-requires-clause-copied
put_value-requires-clause-copied c =
    let i = c.self.inside in
    let s = c.args.self.now in
    let k = c.args.cell in
    let marked : set.contains i.written k ≡ true = marked_is i.written (value_at i.slots.items i.values.items) s.written (ap (λ (t : Seen). t.written) c.self.view_is) k ∙ c.requires in
    subst (λ ss. IsCopied ss c.deref-2.result.now (k / 64)) (sym c.deref.ensures.value) (subst (λ ns. IsCopied i.slots.items ns (k / 64)) (sym c.deref-2.ensures.value) (c.self.invariant.0.paged.copied k marked))

pub invariant_of-self : goal.invariant_of-self
invariant_of-self c =
    let i = c.self.inside in
    let s = c.args.self.now in
    let k = c.args.cell in
    let v = to_z w32 (of_z w32 c.args.value) in
    let marked : set.contains i.written k ≡ true = marked_is i.written (value_at i.slots.items i.values.items) s.written (ap (λ (t : Seen). t.written) c.self.view_is) k ∙ c.requires in
    let e = c.put_value.ensures ∙ ap (λ ss. slice_set i.values.items (index ss i.numbers.items k) v) c.deref.ensures.value in
    (subst (λ vs. IsKept i.base.now i.written i.slots.items i.numbers.items vs) (sym e) (kept_put i.base.now i.written i.slots.items i.numbers.items i.values.items c.self.invariant.0 k v (c.self.invariant.0.paged.within k marked) (c.self.invariant.0.paged.copied k marked) i.written (marks_same i.written k marked)), c.self.invariant.1)

pub returns : goal.returns
returns c =
    let i = c.self.inside in
    let s = c.args.self.now in
    let k = c.args.cell in
    let v = to_z w32 (of_z w32 c.args.value) in
    let is = ap (λ (t : Seen). t.written) c.self.view_is in
    let marked : set.contains i.written k ≡ true = marked_is i.written (value_at i.slots.items i.values.items) s.written is k ∙ c.requires in
    let e = c.put_value.ensures ∙ ap (λ ss. slice_set i.values.items (index ss i.numbers.items k) v) c.deref.ensures.value in
    let n = written_by i.written (value_at i.slots.items c.put_value.new.values.items) in
    let put = written_by i.written (value_at i.slots.items (slice_set i.values.items (index i.slots.items i.numbers.items k) v)) in
    let more = ap (λ vs. written_by i.written (value_at i.slots.items vs)) e in
    let puts = puts_more i.base.now i.written i.slots.items i.numbers.items i.values.items c.self.invariant.0 k v (c.self.invariant.0.paged.within k marked) (c.self.invariant.0.paged.copied k marked) i.written (marks_same i.written k marked) s is in
    ap (λ (t : Seen). record t { written = n }) c.self.view_is ∙ ap (λ w. record s { written = w }) (more ∙ given_one s (record s { written = put }) k v puts) ∙ ap (λ x. record s { written = map.insert s.written k x }) (to_z-of_z w32 c.args.value c.ranges.value)
