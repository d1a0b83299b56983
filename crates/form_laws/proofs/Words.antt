-- Words, runs and the digits of a label.
use Rattle.std.proofs.Common.{◌≡◌, ℕ, ◌+◌, ◌*◌, ◌-◌, ◌≤◌, Bool, true, false, ◌||◌, eqb, ltb, List, [], ◌∷◌, ◌++◌, length, take, drop, Option, Some, None, inl, inr, refl, sym, ap, ◌∙◌, arith}
use Rattle.std.specs.Prelude.{option_map, MatchOption}
use Rattle.std.specs.Borrow.{Bor}
use Rattle.std.specs.List.{fold, list_any, list_all, prefix_len}
use Rattle.std.specs.Cmp.Lexicographic.{pointwise}
use Rattle.std.proofs.Math.Numerals.{one-add}
use Rattle.std.proofs.lemmas.Bool.{eqb-true, eq-eqb, cases_Bool, and_parts}
use Rattle.std.proofs.lemmas.Bool.Decides.{nat_tests, Decides-eqb}
use Rattle.std.proofs.lemmas.Slice.Eq.{strip_prefix_is}
use Rattle.meaning.specs.Characters.{number_of}
use Rattle.meaning.specs.Reading.{after, run, when}
pub use Rattle.meaning.proofs.Readers.{bind_some, when_some, either_some, made_is, no_value, before_takes, before_again, before_is}

-- ---- words

-- a word that is read stands at the front
pub after_takes : (w t r : List ℕ) → after w t ≡ Some r → t ≡ w ++ r
unfolding after when
after_takes [] t r e = cc
after_takes (x ∷ w) [] r e = absurd cc
after_takes (x ∷ w) (c ∷ t) r e =
    elim (cases_Bool (eqb x c)) [
      | inl same ↦ let k : x ≡ c = eqb-true x c same in let m : t ≡ w ++ r = after_takes w t r (rw same at e) in cc
      | inr other ↦ let no : None ≡ Some r = rw other at e in absurd cc
    ]

-- a word at the front is read
pub after_again : (w r : List ℕ) → after w (w ++ r) ≡ Some r
unfolding after when
after_again [] r = refl
after_again (x ∷ w) r = rw (eq-eqb x x refl) (after_again w r)

-- what `strip_prefix` gives
pub behind_is : (t w : List ℕ) (r : Option (Bor (List ℕ))) → MatchOption r (pointwise eqb (take (length w) t) w ≡ false) (λ x. (pointwise eqb (take (length w) t) w ≡ true) × (x.now ≡ drop (length w) t) × (length x.now + length w ≡ length t)) → option_map (λ x. x.now) r ≡ after w t
behind_is t w None said = no_value (after w t) (λ x e. strip_prefix_is Decides-eqb t w None said x (after_takes w t x e))
behind_is t w (Some x) said = sym (ap (after w) (strip_prefix_is Decides-eqb t w (Some x) said) ∙ after_again w x.now)

-- ---- runs

-- a run as the front and the rest of a text
pub run_is : (test : ℕ → Bool) (t : List ℕ) → run test t ≡ (take (prefix_len test t) t, drop (prefix_len test t) t)
unfolding run
run_is test [] = refl
run_is test (c ∷ t) =
    elim (cases_Bool (test c)) [
      | inl passes ↦ rw (passes, run_is test t, one-add) refl
      | inr stops ↦ rw stops refl
    ]

pub prefix_len-le : (test : ℕ → Bool) (t : List ℕ) → prefix_len test t ≤ length t
prefix_len-le test [] = omega arith
prefix_len-le test (c ∷ t) = grind (arith, prefix_len-le test t)

-- what a run took, what it left, and that each of its characters passes
pub run_takes : (test : ℕ → Bool) (t : List ℕ) → t ≡ (run test t).0 ++ (run test t).1
unfolding run
run_takes test [] = refl
run_takes test (c ∷ t) =
    elim (cases_Bool (test c)) [
      | inl passes ↦ rw passes (ap (λ u. c ∷ u) (run_takes test t))
      | inr stops ↦ rw stops refl
    ]

pub run_passes : (test : ℕ → Bool) (t : List ℕ) → list_all test (run test t).0 ≡ true
unfolding run
run_passes test [] = refl
run_passes test (c ∷ t) =
    elim (cases_Bool (test c)) [
      | inl passes ↦ rw (passes, passes) (run_passes test t)
      | inr stops ↦ rw stops refl
    ]

-- the text doesn't begin with a character that passes
abbrev pub stops_at : (ℕ → Bool) → List ℕ → Type 0
stops_at test [] = Unit {0}
stops_at test (c ∷ t) = test c ≡ false

-- a run ends where a character doesn't pass
pub run_again : (test : ℕ → Bool) (a t : List ℕ) → list_all test a ≡ true → stops_at test t → run test (a ++ t) ≡ (a, t)
unfolding run
run_again test [] [] passes stops = refl
run_again test [] (c ∷ t) passes stops = rw stops refl
run_again test (c ∷ a) t passes stops =
    let both = and_parts (test c) (list_all test a) passes in rw (both.0, run_again test a t both.1 stops) refl

pub ruleset runs = (run_is, prefix_len-le)

-- ---- labels

first_positive : (n c : ℕ) → ltb 0 (10 * n + (c - 48)) ≡ (ltb 0 n || ltb 48 c)
first_positive n c = grind (arith, nat_tests)

or_assoc : (a b c : Bool) → ((a || b) || c) ≡ (a || (b || c))
or_assoc true b c = refl
or_assoc false b c = refl

positive_from : (n : ℕ) (digits : List ℕ) → ltb 0 (fold (λ n c. 10 * n + (c - 48)) n digits) ≡ (ltb 0 n || list_any (λ c. ltb 48 c) digits)
positive_from n [] = grind arith
positive_from n (c ∷ cs) = positive_from (10 * n + (c - 48)) cs ∙ ap (λ b. b || list_any (λ c. ltb 48 c) cs) (first_positive n c) ∙ or_assoc (ltb 0 n) (ltb 48 c) (list_any (λ c. ltb 48 c) cs)

-- a number is positive that has a digit above 0
pub positive_is : (digits : List ℕ) → ltb 0 (number_of digits) ≡ list_any (λ c. ltb 48 c) digits
positive_is digits = positive_from 0 digits
