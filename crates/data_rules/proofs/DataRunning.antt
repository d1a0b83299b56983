-- Runs of values.
use Rattle.std.proofs.Common.{◌≡◌, ℕ, zero, suc, Bool, true, false, nat_eq, List, [], ◌∷◌, ◌++◌, map, Option, Some, refl, sym, ap, arith}
use Rattle.std.specs.Prelude.{replicate}
use Rattle.std.proofs.lemmas.Bool.Decides.{Decides-eqb}
use Rattle.meaning.specs.declared.ending.Value.{Value}
use Rattle.data_rules.specs.DataStages.{is_empty_list}

above_zero : (n : ℕ) → suc n ≡ 0 → ⊥
above_zero n e = omega (arith, e)

not_zero : (n : ℕ) → nat_eq (suc n) 0 ≡ false
not_zero n = by_test (nat_eq (suc n) 0) refl
  where
    by_test : (b : Bool) → nat_eq (suc n) 0 ≡ b → b ≡ false
    by_test false e = refl
    by_test true e = absurd (above_zero n ((Decides-eqb (suc n) 0).0 e))

pub used_up : (n : ℕ) (o : Option Value) (rest : List (Option Value)) → (n ≡ 0 → replicate n o ++ rest ≡ []) → nat_eq n 0 ≡ is_empty_list (replicate n o ++ rest)
used_up zero o rest h = sym (ap is_empty_list (h refl))
used_up (suc n) o rest h = not_zero n

pub some_run : (n : ℕ) (v : Value) → replicate n (Some v) ≡ map Some (replicate n v)
some_run zero v = refl
some_run (suc n) v = ap (λ os. Some v ∷ os) (some_run n v)
