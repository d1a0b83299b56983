use Rattle.std.proofs.Common.{rules, ◌<◌, ◌==◌, ◌&&◌, nat_lt, pos, length, ap, ◌∙◌, to_z, of_z}
use Rattle.std.specs.Prelude.{slice_set}
use Rattle.std.specs.Int.{w32}
use Rattle.std.proofs.lemmas.Int.{to_z-of_z}
use Rattle.std.proofs.lemmas.List.{get_or-set_same, get_or-set_other}
use Rattle.private_view.proofs.Fronts.{far_noted, far_world, front_noted, world_noted}
use Rattle.private_view.proofs.front.FirstCells.note.Goals as goal

pub returns-then-cell-lt64-clause-front : goal.returns-then-cell-lt64-clause-front
returns-then-cell-lt64-clause-front c w front =
    let f = c.args.self.now in
    let k = c.args.cell in
    let x = c.args.value in
    let y = to_z w32 (of_z w32 x) in
    let t = c.with_bit-self.ensures in
    let inside : k < length f.shown = search rules in
    front_noted f.shown f.written f.values w front k x (slice_set f.shown k k) c.with_bit-self.result (slice_set f.values k y) (λ d other. get_or-set_other f.values k d y (pos 0) other) (λ d lt other. get_or-set_other f.shown k d k 0 other) (λ d lt other. t.others d other) (λ lt. get_or-set_same f.shown k k 0 inside) (λ lt. t.has)

pub returns-then-cell-lt64-clause-world : goal.returns-then-cell-lt64-clause-world
returns-then-cell-lt64-clause-world c w =
    let f = c.args.self.now in
    let k = c.args.cell in
    let x = c.args.value in
    let y = to_z w32 (of_z w32 x) in
    let t = c.with_bit-self in
    let lt : k < length f.values = search rules in
    world_noted f.written t.result f.values (slice_set f.values k y) k x (λ d other. ap (λ o. nat_lt d 64 && (o == 1)) (t.ensures.others d other)) (λ d other. get_or-set_other f.values k d y (pos 0) other) w (λ there. get_or-set_same f.values k y (pos 0) lt ∙ to_z-of_z w32 x c.ranges.value)

pub returns-else-cell-lt64-clause-front : goal.returns-else-cell-lt64-clause-front
returns-else-cell-lt64-clause-front c w front =
    let f = c.args.self.now in
    far_noted f.shown f.written f.values w front c.args.cell c.args.value c.if-cell-lt64.false

pub returns-else-cell-lt64-clause-world : goal.returns-else-cell-lt64-clause-world
returns-else-cell-lt64-clause-world c w =
    let f = c.args.self.now in
    far_world f.written f.values c.args.cell c.args.value w c.if-cell-lt64.false
