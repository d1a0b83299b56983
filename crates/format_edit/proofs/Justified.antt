-- Texts in fields.
use Rattle.std.proofs.Common.{◌≡◌, ℕ, ◌+◌, ◌-◌, ◌<◌, ◌≤◌, ◌⊎◌, inl, inr, Bool, true, false, eqb, ℤ, pos, negsuc, unsigned_abs, List, [], ◌++◌, length, replicate, refl, ap, ◌∙◌, arith, nat_lt}
use Rattle.std.specs.Fmt.{decimal}
use Rattle.std.proofs.lemmas.Bool.{lt-ltb, le-ltb, ne_eqb}
use Rattle.std.proofs.lemmas.List.{length-append, length-replicate}
use Rattle.meaning.specs.Records.{justified, least_digits, sign_of, integer_text}

pub justified_wide : (w : ℕ) (text : List ℕ) → w < length text → justified w text ≡ replicate w 42
justified_wide w text h = let e : nat_lt w (length text) ≡ true = lt-ltb _ _ h in rw e refl

pub justified_fits : (w : ℕ) (text : List ℕ) → length text ≤ w → justified w text ≡ replicate (w - length text) 32 ++ text
justified_fits w text h = let e : nat_lt w (length text) ≡ false = le-ltb _ _ h in rw e refl

-- no digits of 0
pub integer_nothing : (m : ℕ) (z : ℤ) → m ≡ 0 → unsigned_abs z ≡ 0 → integer_text m z ≡ []
integer_nothing m (pos n) e f = ap (λ k. least_digits k n) e ∙ ap (least_digits 0) f
integer_nothing m (negsuc n) e f = absurd (omega arith)

pub digits_some : (m n : ℕ) → (0 < m) ⊎ (0 < n) → least_digits m n ≡ replicate (m - length (decimal n)) 48 ++ decimal n
digits_some m n (inl h) = let e : eqb m 0 ≡ false = ne_eqb _ _ (λ k. omega arith) in rw e refl
digits_some m n (inr h) = by_test (eqb m 0) refl
  where
    by_test : (b : Bool) → eqb m 0 ≡ b → least_digits m n ≡ replicate (m - length (decimal n)) 48 ++ decimal n
    by_test true f = let e : eqb n 0 ≡ false = ne_eqb _ _ (λ k. omega arith) in rw (f, e) refl
    by_test false f = rw f refl

pub integer_some : (m : ℕ) (z : ℤ) → (0 < m) ⊎ (0 < unsigned_abs z) → integer_text m z ≡ sign_of z ++ (replicate (m - length (decimal (unsigned_abs z))) 48 ++ decimal (unsigned_abs z))
integer_some m z h = ap (λ t. sign_of z ++ t) (digits_some m (unsigned_abs z) h)

pub short_sign : (z : ℤ) → length (sign_of z) ≤ 1
short_sign (pos n) = omega arith
short_sign (negsuc n) = omega arith

-- a sign, zeros and digits
pub text_length : (sign digits : List ℕ) (n : ℕ) → length (sign ++ (replicate n 48 ++ digits)) ≡ length sign + (n + length digits)
text_length sign digits n = simp (length-append, length-replicate)
