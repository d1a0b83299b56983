-- Numbers from 0 on.
use Rattle.std.proofs.Common.{◌≡◌, ℕ, ◌<◌, ◌≤◌, T, ℤ, Some, None, nat_abs, sym, ap, ◌∙◌}
use Rattle.std.specs.Prelude.{if◌then◌else◌}
use Rattle.std.specs.Int.Signed.{pos-nat_abs, non_neg}
use Rattle.std.proofs.lemmas.Bool.{lt-ltb, le-ltb}
use Rattle.meaning.specs.Characters.{at_least_zero}
use Rattle.meaning.specs.Arrays.{within}

pub natural_is : (z : ℤ) → T (non_neg z) → nat_abs z ≡ at_least_zero z
natural_is z h = ap at_least_zero (pos-nat_abs z h)

pub within_below : (n : ℕ) (z : ℤ) → T (non_neg z) → nat_abs z < n → Some (nat_abs z) ≡ within n z
within_below n z h lt =
    sym (ap (λ b. if b then Some (nat_abs z) else None) (lt-ltb (nat_abs z) n lt)) ∙ ap (within n) (pos-nat_abs z h)

pub within_above : (n : ℕ) (z : ℤ) → T (non_neg z) → n ≤ nat_abs z → None ≡ within n z
within_above n z h le =
    sym (ap (λ b. if b then Some (nat_abs z) else None) (le-ltb (nat_abs z) n le)) ∙ ap (within n) (pos-nat_abs z h)
