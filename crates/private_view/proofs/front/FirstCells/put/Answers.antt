use Rattle.std.proofs.Common.{rules, ◌<◌, pos, length, refl, sym, ◌∙◌, to_z, of_z}
use Rattle.std.specs.Prelude.{slice_set}
use Rattle.std.specs.Int.{w32}
use Rattle.std.proofs.lemmas.Int.{to_z-of_z}
use Rattle.std.proofs.lemmas.List.{get_or-set_same, get_or-set_other}
use Rattle.private_view.proofs.Fronts.{within_first, world_put}
use Rattle.private_view.proofs.front.FirstCells.put.Goals as goal

pub returns-then-has_bit-clause-world : goal.returns-then-has_bit-clause-world
returns-then-has_bit-clause-world c t w =
    let f = c.args.self.now in
    let k = c.args.cell in
    let x = c.args.value in
    let y = to_z w32 (of_z w32 x) in
    let lt : k < length f.values = search rules in
    world_put f.written f.written f.values (slice_set f.values k y) k x (λ d other. refl) (λ d other. get_or-set_other f.values k d y (pos 0) other) w (within_first f.written k c.if-cell-lt64.true ∙ sym c.has_bit.ensures ∙ c.if-has_bit.true) (get_or-set_same f.values k y (pos 0) lt ∙ to_z-of_z w32 x c.ranges.value)
