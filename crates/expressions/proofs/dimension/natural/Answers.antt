use Rattle.std.proofs.Common.{rules, T}
use Rattle.std.specs.Int.{w64}
use Rattle.std.specs.Int.Signed.{non_neg}
use Rattle.std.proofs.lemmas.Int.{to_z-of_z}
use Rattle.expressions.proofs.Naturals.{natural_is}
use Rattle.expressions.proofs.dimension.natural.Goals as goal

pub returns-else-number-lt0 : goal.returns-else-number-lt0
returns-else-number-lt0 c =
    let h : T (non_neg c.args.number) = search rules in
    rw (to_z-of_z w64 c.args.number c.ranges.number) (natural_is c.args.number h)
