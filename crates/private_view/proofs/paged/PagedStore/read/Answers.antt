use Rattle.std.proofs.Common.{rules, ◌≡◌, Some, None, slice_get, sym, ap, ◌∙◌, FitsSigned}
use Rattle.std.specs.Int.{w32}
use Rattle.std.proofs.lemmas.Int.{to_z-of_z}
use Rattle.std.specs.FinSet as set
use Rattle.std.specs.FinMap as map
use Rattle.private_view.specs.Views.{Seen, world_seen, value_at}
use Rattle.private_view.proofs.Looking.{has_value, has_none, known_written, leaves_written, known_base, leaves_shown}
use Rattle.private_view.proofs.paged.PagedStore.read.Goals as goal

pub returns-then-is_own-clause-value : goal.returns-then-is_own-clause-value
returns-then-is_own-clause-value c =
    let s = c.args.self.now in
    let k = c.args.cell.0 in
    let i = c.self.inside in
    let v = c.value_of.result in
    let f : FitsSigned w32 v = search rules in
    let same : value_at i.slots.items i.values.items k ≡ v =
    sym (c.value_of.ensures ∙ (λ j. value_at (c.deref.ensures.value j) (c.deref-then-is_own-2.ensures.value j) k)) in
    let is : map.get s.written k ≡ Some v =
    has_value i.written (value_at i.slots.items i.values.items) s.written (ap (λ (t : Seen). t.written) c.self.view_is) k (sym c.has-is_own.ensures ∙ c.if-is_own.true) ∙ ap Some same in
    to_z-of_z w32 v f ∙ known_written (world_seen s) k v is

pub returns-then-is_own-clause-after : goal.returns-then-is_own-clause-after
returns-then-is_own-clause-after c =
    let s = c.args.self.now in
    let k = c.args.cell.0 in
    let i = c.self.inside in
    leaves_written (world_seen s) k (value_at i.slots.items i.values.items k) (has_value i.written (value_at i.slots.items i.values.items) s.written (ap (λ (t : Seen). t.written) c.self.view_is) k (sym c.has-is_own.ensures ∙ c.if-is_own.true))

pub returns-then-has-clause-value : goal.returns-then-has-clause-value
returns-then-has-clause-value c =
    let s = c.args.self.now in
    let k = c.args.cell.0 in
    let i = c.self.inside in
    let none : map.get s.written k ≡ None =
    has_none i.written (value_at i.slots.items i.values.items) s.written (ap (λ (t : Seen). t.written) c.self.view_is) k (sym c.has-is_own.ensures ∙ c.if-is_own.false) in
    let x = c.read.result in
    let f : FitsSigned w32 x = search rules in
    let is : slice_get s.base k ≡ Some x = ap (λ (t : Seen). slice_get t.base k) (sym c.self.view_is) ∙ c.read.ensures in
    to_z-of_z w32 x f ∙ known_base s k x none is

pub returns-then-has-clause-after : goal.returns-then-has-clause-after
returns-then-has-clause-after c =
    let s = c.args.self.now in
    let k = c.args.cell.0 in
    let i = c.self.inside in
    let none : map.get s.written k ≡ None =
    has_none i.written (value_at i.slots.items i.values.items) s.written (ap (λ (t : Seen). t.written) c.self.view_is) k (sym c.has-is_own.ensures ∙ c.if-is_own.false) in
    leaves_shown s k none (ap (λ (t : Seen). set.contains t.exposed k) (sym c.self.view_is) ∙ sym c.has.ensures ∙ c.if-has.true)

pub read_new-requires-clause-unwritten : goal.read_new-requires-clause-unwritten
read_new-requires-clause-unwritten c =
    let s = c.args.self.now in
    let k = c.args.cell.0 in
    let i = c.self.inside in
    has_none i.written (value_at i.slots.items i.values.items) s.written (ap (λ (t : Seen). t.written) c.self.view_is) k (sym c.has-is_own.ensures ∙ c.if-is_own.false)
