use Rattle.std.proofs.Common.{rules, sym, ap, ◌∙◌, subst, to_z, of_z}
use Rattle.std.specs.Int.{w32}
use Rattle.std.proofs.lemmas.Int.{to_z-of_z}
use Rattle.meaning.specs.Stores.{after_write}
use Rattle.private_view.specs.declared.front.FirstCells.{FirstCells}
use Rattle.private_view.specs.Fronts.{IsFront, world_with_first}
use Rattle.private_view.specs.Views.{world_seen}
use Rattle.private_view.proofs.Fronts.{far_noted, far_world, put_now, same_now, world_first, world_now}
use Rattle.private_view.proofs.view.ViewStore.write.Goals as goal

pub invariant_of-self : goal.invariant_of-self
invariant_of-self c = c.put.ensures.front c.if-put.true (world_seen c.self.inside.paged) c.self.invariant

pub returns-then-put-clause-ok : goal.returns-then-put-clause-ok
returns-then-put-clause-ok c =
    let f = c.self.inside.front in
    let k = c.args.cell.0 in
    let g = c.put.new.self in
    put_now f.written f.values c.self.inside.paged c.args.self.now c.self.view_is k (to_z w32 (of_z w32 c.args.value)) g.written g.values (c.put.ensures.world c.if-put.true) ∙ ap (λ x. after_write k x (world_seen c.args.self.now)) (to_z-of_z w32 c.args.value c.ranges.value)

pub returns-in_err-write-clause-err : goal.returns-in_err-write-clause-err
returns-in_err-write-clause-err c =
    let f = c.self.inside.front in
    let g = c.put.new.self in
    let other = c.put.ensures.other c.if-put.false in
    let same = same_now f.written f.values c.self.inside.paged c.args.self.now c.self.view_is g.written g.values c.write.new.self (ap (λ (h : FirstCells). h.written) other) (ap (λ (h : FirstCells). h.values) other) c.in_err-write.ensures.err in
    search (rules, same)

pub invariant_of-self-then-cell-ge64 : goal.invariant_of-self-then-cell-ge64
invariant_of-self-then-cell-ge64 c =
    let f = c.self.inside.front in
    let p = c.self.inside.paged in
    let k = c.args.cell.0 in
    let x = to_z w32 (of_z w32 c.args.value) in
    subst (λ (g : FirstCells). IsFront g.shown g.written g.values (world_seen c.write.new.self)) (sym (c.put.ensures.other c.if-put.false))
    (subst (IsFront f.shown f.written f.values) (sym c.in_ok-write.ensures.ok) (far_noted f.shown f.written f.values (world_seen p) c.self.invariant k x c.if-cell-ge64.true))

pub returns-then-cell-ge64-clause-ok : goal.returns-then-cell-ge64-clause-ok
returns-then-cell-ge64-clause-ok c =
    let f = c.self.inside.front in
    let p = c.self.inside.paged in
    let k = c.args.cell.0 in
    let x = to_z w32 (of_z w32 c.args.value) in
    let g = c.put.new.self in
    let n = c.write.new.self in
    let now = world_now f.written f.values p c.args.self.now c.self.view_is in
    world_first g.written g.values n ∙ ap (λ (h : FirstCells). world_with_first h.written h.values (world_seen n)) (c.put.ensures.other c.if-put.false) ∙ ap (world_with_first f.written f.values) c.in_ok-write.ensures.ok ∙ far_world f.written f.values k x (world_seen p) c.if-cell-ge64.true ∙ ap (after_write k x) (sym now) ∙ ap (λ y. after_write k y (world_seen c.args.self.now)) (to_z-of_z w32 c.args.value c.ranges.value)
