use Rattle.std.proofs.Common.{rules, ◌≡◌, int_div, to_z, of_z, unsigned_abs}
use Rattle.std.specs.Int.{w64}
use Rattle.meaning.specs.Characters.{at_least_zero}
use Rattle.expressions.proofs.trips.quotient_or_zero.Goals as goal

pub returns-then-quotient-lt0 : goal.returns-then-quotient-lt0
returns-then-quotient-lt0 c =
    let none : 0 ≡ at_least_zero (int_div c.args.dividend c.args.divisor) = search rules in none

pub returns-else-quotient-lt0 : goal.returns-else-quotient-lt0
returns-else-quotient-lt0 c =
    let a = c.args.dividend in
    let b = c.args.divisor in
    let same : unsigned_abs (to_z w64 (of_z w64 (int_div (to_z w64 (of_z w64 a)) (to_z w64 (of_z w64 b))))) ≡ at_least_zero (int_div a b) = search rules in same
