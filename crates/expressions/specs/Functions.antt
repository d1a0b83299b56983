-- What the Rust values of functions stand for.
use Rattle.std.specs.Prelude.{ℤ, List}
use Rattle.meaning.specs.Intrinsics as intrinsics
use Rattle.meaning.specs.Values.{Valued}
use Rattle.expressions.specs.declared.intrinsics.Intrinsic.{Intrinsic}
use Rattle.expressions.specs.declared.intrinsics.Intrinsic.TheVariants as functions
use Rattle.expressions.specs.declared.intrinsics.Arguments.{Arguments}
use Rattle.expressions.specs.declared.intrinsics.Arguments.TheVariants as arguments

-- ---- intrinsic functions

abbrev pub intrinsic : Intrinsic → intrinsics.Intrinsic
intrinsic functions.Absolute = intrinsics.absolute
intrinsic functions.Remainder = intrinsics.remainder
intrinsic functions.Greatest = intrinsics.greatest
intrinsic functions.Least = intrinsics.least
intrinsic functions.SignTransfer = intrinsics.sign_transfer
intrinsic functions.PositiveDifference = intrinsics.positive_difference

-- the value where further arguments follow those so far
abbrev pub value_from : intrinsics.Intrinsic → Arguments → List ℤ → Valued
value_from f arguments.None zs = intrinsics.intrinsic_value f zs
value_from f (arguments.One a) zs = intrinsics.of_more f a zs
value_from f (arguments.Two a b) zs = intrinsics.of_two f a b
