use Rattle.std.proofs.Common.{rules, ◌≡◌, pos, ◌+ℤ◌, ◌-ℤ◌, FitsSigned, to_z, of_z, w64}
use Rattle.std.proofs.lemmas.Int.{to_z-of_z}
use Rattle.expressions.proofs.dimension.Dimension.extent.Goals as goal

pub returns : goal.returns
returns c =
    let d = c.args.self.now in
    let u : to_z w64 (of_z w64 c.from.result) ≡ d.upper = search rules in
    let l : to_z w64 (of_z w64 c.from-2.result) ≡ d.lower = search rules in
    let f : FitsSigned w64 (d.upper -ℤ d.lower) = search rules in
    let g : FitsSigned w64 (d.upper -ℤ d.lower +ℤ pos 1) = search rules in
    rw (u, l, to_z-of_z w64 (d.upper -ℤ d.lower) f, to_z-of_z w64 (d.upper -ℤ d.lower +ℤ pos 1) g) at c.natural.ensures
