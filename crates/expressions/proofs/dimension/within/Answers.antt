use Rattle.std.proofs.Common.{rules, T, ◌≤◌, nat_abs, subst}
use Rattle.std.specs.Int.{w64}
use Rattle.std.specs.Int.Signed.{non_neg}
use Rattle.std.proofs.lemmas.Int.{to_z-of_z}
use Rattle.expressions.proofs.Naturals.{within_below, within_above}
use Rattle.expressions.proofs.dimension.within.Goals as goal

pub returns-then-natural-extent : goal.returns-then-natural-extent
returns-then-natural-extent c =
    let h : T (non_neg c.args.number) = search rules in
    rw (to_z-of_z w64 c.args.number c.ranges.number) (within_below c.args.extent c.args.number h (search rules))

pub returns-else-natural-extent : goal.returns-else-natural-extent
returns-else-natural-extent c =
    let h : T (non_neg c.args.number) = search rules in
    within_above c.args.extent c.args.number h (subst (λ z. c.args.extent ≤ nat_abs z) (to_z-of_z w64 c.args.number c.ranges.number) c.if-natural-extent.false)
