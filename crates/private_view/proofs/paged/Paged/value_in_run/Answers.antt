use Rattle.std.proofs.Common.{rules, ◌≡◌, Some, None, slice_get, sym, ap, ◌∙◌, FitsSigned}
use Rattle.std.specs.Int.{w32}
use Rattle.std.proofs.lemmas.Int.{to_z-of_z}
use Rattle.std.specs.FinSet as set
use Rattle.std.specs.FinMap as map
use Rattle.private_view.specs.Views.{Seen, value_at}
use Rattle.private_view.proofs.Looking.{has_none, known_base, leaves_shown}
use Rattle.private_view.proofs.paged.Paged.value_in_run.Goals as goal

pub returns-then-cell-self-clause-value : goal.returns-then-cell-self-clause-value
returns-then-cell-self-clause-value c =
    let s = c.args.self.now in
    let k = c.args.cell.0 in
    let i = c.self.inside in
    let none : map.get s.written k ≡ None =
    has_none i.written (value_at i.slots.items i.values.items) s.written (ap (λ (t : Seen). t.written) c.self.view_is) k (c.self.invariant.1.unwritten k c.if-self-cell.true c.if-cell-self.true) in
    let x = c.read.result in
    let f : FitsSigned w32 x = search rules in
    let is : slice_get s.base k ≡ Some x = ap (λ (t : Seen). slice_get t.base k) (sym c.self.view_is) ∙ c.read.ensures in
    to_z-of_z w32 x f ∙ known_base s k x none is

pub returns-then-cell-self-clause-after : goal.returns-then-cell-self-clause-after
returns-then-cell-self-clause-after c =
    let s = c.args.self.now in
    let k = c.args.cell.0 in
    let i = c.self.inside in
    let none : map.get s.written k ≡ None =
    has_none i.written (value_at i.slots.items i.values.items) s.written (ap (λ (t : Seen). t.written) c.self.view_is) k (c.self.invariant.1.unwritten k c.if-self-cell.true c.if-cell-self.true) in
    leaves_shown s k none (ap (λ (t : Seen). set.contains t.exposed k) (sym c.self.view_is) ∙ c.self.invariant.1.shown k c.if-self-cell.true c.if-cell-self.true)
