-- Lemmas on the scans.
use Rattle.std.proofs.Common.{◌≡◌, refl, inl, inr, ℕ, ◌+◌, ◌<◌, ◌≤◌, ltb, length, get_or, drop, Bool, true, false, not, eqb, List, [], ◌∷◌, arith}
use Rattle.std.proofs.lemmas.Bool.{lt-ltb}
use Rattle.std.proofs.lemmas.List.{drop_more}
use Rattle.std.specs.List.{prefix_len}
use Rattle.std.proofs.lemmas.Bool.{cases_Bool}
use Rattle.std.proofs.Math.Numerals.{one-add}
use Rattle.meaning.specs.Characters.{is_digit}
use Rattle.meaning.specs.Kinds.{behind_digits}
use Rattle.meaning.specs.Reading.{most_open}

-- as many are open as were at the start
pub most_open-from : (depth : ℕ) (inside : Bool) (t : List ℕ) → depth ≤ most_open depth inside t
unfolding most_open
most_open-from depth true [] = omega arith
most_open-from depth false [] = omega arith
most_open-from depth true (c ∷ cs) = most_open-from depth (not (eqb c 39)) cs
most_open-from depth false (c ∷ cs) = grind (arith, most_open-from depth true cs, most_open-from (depth + 1) false cs, most_open-from depth false cs)

-- one more is open than may be
pub too_deep : (depth i : ℕ) (inside : Bool) (text : List ℕ) → i < length text → get_or text i 0 ≡ 40 → inside ≡ false → 64 < depth + 1 → ltb 64 (most_open depth inside (drop i text)) ≡ true
unfolding most_open
too_deep depth i inside text in_text opens outside deep =
    rw (outside, drop_more text i 0 in_text, opens) (lt-ltb _ _ (omega (arith, most_open-from (depth + 1) false (drop (i + 1) text))))

-- what stands behind digits
pub digits_dropped : (t : List ℕ) → drop (prefix_len is_digit t) t ≡ behind_digits t
unfolding behind_digits
digits_dropped [] = refl
digits_dropped (c ∷ t) =
    elim (cases_Bool (is_digit c)) [
      | inl passes ↦ rw (passes, one-add) (digits_dropped t)
      | inr stops ↦ rw stops refl
    ]

pub digits_within : (t : List ℕ) → prefix_len is_digit t ≤ length t
digits_within [] = omega arith
digits_within (c ∷ t) = grind (arith, digits_within t)
