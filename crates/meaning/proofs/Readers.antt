-- Steps of readers that gave a value, and what stands before a last parenthesis.
use Rattle.std.proofs.Common.{◌≡◌, ℕ, ◌+◌, ◌-◌, Bool, true, false, eqb, List, [], ◌∷◌, ◌++◌, length, take, drop, Option, Some, None, inl, inr, refl, sym, ap, subst, ◌∙◌}
use Rattle.std.specs.Prelude.{option_map, MatchOption}
use Rattle.std.specs.Borrow.{Bor}
use Rattle.std.specs.Cmp.Lexicographic.{pointwise}
use Rattle.std.proofs.lemmas.Bool.{eqb-true, cases_Bool}
use Rattle.std.proofs.lemmas.Bool.Decides.{Decides-eqb}
use Rattle.std.proofs.lemmas.Option.{same_Some}
use Rattle.std.proofs.lemmas.Slice.Eq.{strip_suffix_is}
use Rattle.meaning.specs.Reading.{◌>>=◌, either, before_last_parenthesis, when}

-- what follows from the value of a step that did not fail
pub bind_some : {A B P : Type 0} (o : Option A) (f : A → Option B) (y : B) → (o >>= f) ≡ Some y → ((x : A) → o ≡ Some x → f x ≡ Some y → P) → P
unfolding ◌>>=◌
bind_some (Some x) f y e then_P = then_P x refl e
bind_some None f y e then_P = absurd cc

-- and from a test that did not fail
pub when_some : {A P : Type 0} (b : Bool) (o : Option A) (y : A) → when b o ≡ Some y → (b ≡ true → o ≡ Some y → P) → P
unfolding when
when_some true o y e then_P = then_P refl e
when_some false o y e then_P = absurd cc

-- and from a choice that did not fail
pub either_some : {A B P : Type 0} (o : Option A) (b : Option B) (f : A → Option B) (y : B) → either o b f ≡ Some y → (o ≡ None → b ≡ Some y → P) → ((x : A) → o ≡ Some x → f x ≡ Some y → P) → P
unfolding either
either_some None b f y e then_P with_P = then_P refl e
either_some (Some x) b f y e then_P with_P = with_P x refl e

-- what holds of the value that was made
pub made_is : {A : Type 0} (P : A → Type 0) (made x : A) → Some made ≡ Some x → P made → P x
made_is P made x e p = subst P (same_Some made x e) p

pub no_value : {A : Type 0} (o : Option A) → ((x : A) → o ≡ Some x → ⊥) → None ≡ o
no_value None h = refl
no_value (Some x) h = absurd (h x refl)

-- ---- what stands before a last parenthesis

-- a last parenthesis that is read stands at the end
pub before_takes : (t r : List ℕ) → before_last_parenthesis t ≡ Some r → t ≡ r ++ 41 ∷ []
unfolding before_last_parenthesis ◌>>=◌ when
before_takes [] r e = absurd cc
before_takes (c ∷ []) r e =
    elim (cases_Bool (eqb c 41)) [
      | inl closes ↦ let k : c ≡ 41 = eqb-true c 41 closes in let m : Some [] ≡ Some r = rw closes at e in cc
      | inr other ↦ let no : None ≡ Some r = rw other at e in absurd cc
    ]
before_takes (c ∷ d ∷ t) r e =
    bind_some (before_last_parenthesis (d ∷ t)) (λ r. Some (c ∷ r)) r e (λ front e1 e2.
    made_is (λ (r : List ℕ). c ∷ d ∷ t ≡ r ++ 41 ∷ []) (c ∷ front) r e2 (ap (λ x. c ∷ x) (before_takes (d ∷ t) front e1)))

-- one at the end is read
pub before_again : (r : List ℕ) → before_last_parenthesis (r ++ 41 ∷ []) ≡ Some r
unfolding before_last_parenthesis ◌>>=◌ when
before_again [] = refl
before_again (c ∷ []) = refl
before_again (c ∷ d ∷ r) = rw (before_again (d ∷ r)) refl

-- what `strip_suffix` gives
pub before_is : (t : List ℕ) (r : Option (Bor (List ℕ))) → MatchOption r (pointwise eqb (drop (length t - 1) t) (41 ∷ []) ≡ false) (λ x. (pointwise eqb (drop (length t - 1) t) (41 ∷ []) ≡ true) × (x.now ≡ take (length t - 1) t) × (length x.now + 1 ≡ length t)) → option_map (λ x. x.now) r ≡ before_last_parenthesis t
before_is t None said = no_value (before_last_parenthesis t) (λ x e. strip_suffix_is Decides-eqb t (41 ∷ []) None said x (before_takes t x e))
before_is t (Some x) said = sym (ap before_last_parenthesis (strip_suffix_is Decides-eqb t (41 ∷ []) (Some x) said) ∙ before_again x.now)
