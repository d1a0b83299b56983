-- The columns of a line as the code writes them.
use Rattle.std.proofs.Common.{◌≡◌, ℕ, zero, suc, ◌-◌, ◌≤◌, List, [], ◌∷◌, ◌++◌, length, take, drop, replicate, min, refl, ap, ◌∙◌, arith, inl, inr}
use Rattle.std.proofs.lemmas.Bool.{cases_lt}
use Rattle.std.proofs.lemmas.List.{take_all, take-append-le, take-replicate, drop-replicate, length-take-le, append-nil}
use Rattle.meaning.specs.Lines.{card}

-- what is taken of joined lists, past the first
take_over : (n : ℕ) (xs ys : List ℕ) → length xs ≤ n → take n (xs ++ ys) ≡ xs ++ take (n - length xs) ys
take_over n [] ys le = let e : n - 0 ≡ n = omega arith in rw e refl
take_over zero (x ∷ xs) ys le = absurd (omega arith)
take_over (suc n) (x ∷ xs) ys le =
    let e : suc n - length (x ∷ xs) ≡ n - length xs = omega arith in
    rw e (ap (λ (zs : List ℕ). x ∷ zs) (take_over n xs ys (omega arith)))

-- columns 1 to 72, as the code writes the front of a line over blanks
pub card_made : (columns line blanks : List ℕ) (n : ℕ) → columns ≡ take n line ++ drop (length (take n line)) blanks → blanks ≡ replicate 72 32 → n ≡ min (length line) 72 → columns ≡ card line
unfolding card
card_made columns line blanks n made all_blank is =
    let len : length (take n line) ≡ n = length-take-le n line (omega arith) in
    elim (cases_lt (length line) 72) [
      | inl le ↦
          let whole : take n line ≡ line = take_all n line (omega arith) in
          let k : n ≡ length line = omega arith in
          made ∙ rw (len, all_blank, whole, k, drop-replicate {X = ℕ} (length line) 72 32, take_over 72 line (replicate 72 32) (omega arith), take-replicate {X = ℕ} (72 - length line) 72 32 (omega arith)) refl
      | inr lt ↦
          let k : n ≡ 72 = omega arith in
          made ∙ rw (len, all_blank, k, drop-replicate {X = ℕ} 72 72 32, take-append-le 72 line (replicate 72 32) (omega arith)) (append-nil (take 72 line))
    ]
