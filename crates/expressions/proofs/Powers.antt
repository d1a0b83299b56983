-- Quotients of 1, which powers with a negative exponent are.
use Rattle.std.proofs.Common.{◌≡◌, ◌≢◌, zero, suc, Option, Some, None, Ok, ℤ, pos, negsuc, neg_ℤ, int_div, refl, sym, ap, subst, arith}
use Rattle.std.specs.Prelude.{SomeIff, FitsSigned}
use Rattle.std.specs.Int.{w32}
use Rattle.std.proofs.Math.Nat.{div-eq_of_lt}
use Rattle.meaning.specs.declared.ending.Value.TheVariants.{Int}
use Rattle.meaning.specs.Values.{integer}

quotient_of_one : (z : ℤ) → z ≢ pos 1 → z ≢ negsuc 0 → int_div (pos 1) z ≡ pos 0
quotient_of_one (pos zero) one minus = refl
quotient_of_one (pos (suc zero)) one minus = absurd (one refl)
quotient_of_one (pos (suc (suc n))) one minus = ap pos (div-eq_of_lt {n = 1} {m = suc (suc n)} (omega arith))
quotient_of_one (negsuc zero) one minus = absurd (minus refl)
quotient_of_one (negsuc (suc n)) one minus = ap (λ k. neg_ℤ (pos k)) (div-eq_of_lt {n = 1} {m = suc (suc n)} (omega arith))

module _ (power : Option ℤ) (z : ℤ) (exact : SomeIff power (FitsSigned w32 z) z) where
  is_exactly : (p : ℤ) → power ≡ Some p → p ≡ z
  is_exactly p is = (subst (λ o. SomeIff o (FitsSigned w32 z) z) is exact).1

  pub inverse-one : power ≡ Some (pos 1) → Ok (Int (pos 1)) ≡ integer (int_div (pos 1) z)
  unfolding integer
  inverse-one is = subst (λ x. Ok (Int (pos 1)) ≡ integer (int_div (pos 1) x)) (is_exactly (pos 1) is) refl

  pub inverse-minus_one : power ≡ Some (negsuc 0) → Ok (Int (negsuc 0)) ≡ integer (int_div (pos 1) z)
  unfolding integer
  inverse-minus_one is = subst (λ x. Ok (Int (negsuc 0)) ≡ integer (int_div (pos 1) x)) (is_exactly (negsuc 0) is) refl

  pub inverse-other : (p : ℤ) → power ≡ Some p → p ≢ pos 1 → p ≢ negsuc 0 → Ok (Int (pos 0)) ≡ integer (int_div (pos 1) z)
  unfolding integer
  inverse-other p is one minus =
      sym (ap integer (quotient_of_one z (subst (λ x. x ≢ pos 1) (is_exactly p is) one) (subst (λ x. x ≢ negsuc 0) (is_exactly p is) minus)))

  pub inverse-none : power ≡ None → Ok (Int (pos 0)) ≡ integer (int_div (pos 1) z)
  unfolding integer
  inverse-none is =
      sym (ap integer (quotient_of_one z (λ e. unfit (subst (λ x. FitsSigned w32 x) (sym e) (record { sfits = omega arith }))) (λ e. unfit (subst (λ x. FitsSigned w32 x) (sym e) (record { sfits = omega arith })))))
    where
      unfit : FitsSigned w32 z → ⊥
      unfit = subst (λ o. SomeIff o (FitsSigned w32 z) z) is exact
