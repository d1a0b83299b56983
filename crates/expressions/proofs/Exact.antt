-- An exact result is an INTEGER exactly where it fits 32 bits.
use Rattle.std.proofs.Common.{◌≡◌, ℕ, ◌<◌, ◌≤◌, ◌^◌, true, false, Option, Some, None, Ok, Err, ℤ, pos, negsuc, refl, sym, arith}
use Rattle.std.specs.Prelude.{SomeIff, FitsSigned, int_lt}
use Rattle.std.specs.Int.{w32}
use Rattle.std.proofs.lemmas.Bool.{lt-ltb, le-ltb}
use Rattle.meaning.specs.declared.ending.FaultKind.TheVariants.{F2}
use Rattle.meaning.specs.declared.ending.Value.TheVariants.{Int}
use Rattle.meaning.specs.Values.{Valued, integer, is_integer}
use Rattle.meaning.specs.Intrinsics.{of_two, positive_difference}

abbrev pub outcome : Option ℤ → Valued
outcome None = Err F2
outcome (Some x) = Ok (Int x)

fits_is : (z : ℤ) → FitsSigned w32 z → is_integer z ≡ true
fits_is (pos n) h = lt-ltb n (2 ^ 31) h.sfits
fits_is (negsuc n) h = lt-ltb n (2 ^ 31) h.sfits

above : (n : ℕ) → (n < 2 ^ 31 → ⊥) → 2 ^ 31 ≤ n
above n f = omega arith

fits_not : (z : ℤ) → (FitsSigned w32 z → ⊥) → is_integer z ≡ false
fits_not (pos n) h = le-ltb n (2 ^ 31) (above n (λ lt. h (record { sfits = lt })))
fits_not (negsuc n) h = le-ltb n (2 ^ 31) (above n (λ lt. h (record { sfits = lt })))

pub outcome-exact : (o : Option ℤ) (z : ℤ) → SomeIff o (FitsSigned w32 z) z → outcome o ≡ integer z
unfolding integer
outcome-exact None z h = rw (fits_not z h) refl
outcome-exact (Some x) z h = rw (h.1, fits_is z h.0) refl

-- where the first isn't above the second
pub no_difference : (a b : ℤ) → int_lt b a ≡ false → Ok (Int (pos 0)) ≡ of_two positive_difference a b
unfolding integer
no_difference a b below = rw below refl

-- an INTEGER is within the range
pub in_range : (z : ℤ) → FitsSigned w32 z → integer z ≡ Ok (Int z)
in_range z fits = sym (outcome-exact (Some z) z (fits, refl))

pub zero_is : integer (pos 0) ≡ Ok (Int (pos 0))
unfolding integer
zero_is = refl
