-- Sums of sizes that stop at the greatest number of 64 bits.
use Rattle.std.proofs.Common.{◌≡◌, ℕ, ◌+◌, ◌-◌, ◌^◌, inl, inr, sym, ap, ap₂, ◌∙◌, arith}
use Rattle.std.proofs.Math.Nat.{min-eq_left, min-eq_right}
use Rattle.std.specs.Prelude.{nat_lt}
use Rattle.std.proofs.lemmas.Bool.{cases_lt, lt-ltb}
use Rattle.expressions.specs.Places.{capped}

pub capped_add : (a b : ℕ) → capped (capped a + capped b) ≡ capped (a + b)
capped_add a b = omega arith

-- whether a number is above a small one
pub above_capped : (n : ℕ) → nat_lt 16777216 (capped n) ≡ nat_lt 16777216 n
above_capped n =
    elim (cases_lt n (2 ^ 64 - 1)) [
      | inl lt ↦ ap (nat_lt 16777216) (min-eq_left (omega (arith, lt)))
      | inr le ↦ ap (nat_lt 16777216) (min-eq_right le) ∙ sym (lt-ltb 16777216 n (omega (arith, le)))
    ]

pub above_sum : (n k now more sum : ℕ) → now ≡ capped n → more ≡ capped k → sum ≡ capped (now + more) → nat_lt 16777216 sum ≡ nat_lt 16777216 (n + k)
above_sum n k now more sum so_far by added =
    ap (nat_lt 16777216) (added ∙ ap₂ (λ a b. capped (a + b)) so_far by ∙ capped_add n k) ∙ above_capped (n + k)
