-- Reading from the front of a text: digits, a character, and steps that may fail.
use Rattle.std.proofs.Common.{◌≡◌, ℕ, Bool, true, false, eqb, [], ◌∷◌, ◌++◌, take, drop, Option, Some, None, refl, sym, ap, ◌∙◌, one-add}
use Rattle.std.specs.List.{prefix_len, list_all}
use Rattle.std.proofs.lemmas.Bool.{eqb-true, eq-eqb, and_parts, and_from}
use Rattle.std.proofs.lemmas.List.{take-append-drop}
use Rattle.meaning.specs.Characters.{is_digit}
use Rattle.meaning.specs.Reading.{Text, ◌>>=◌, when, after, with_char, run}

-- ---- digits

-- the longest front whose characters pass, by its length
pub run_is : (test : ℕ → Bool) (t : Text) → run test t ≡ (take (prefix_len test t) t, drop (prefix_len test t) t)
unfolding run
run_is test [] = refl
run_is test (c ∷ t) = by_test (test c) refl (run_is test t)
  where
    by_test : (b : Bool) → test c ≡ b → run test t ≡ (take (prefix_len test t) t, drop (prefix_len test t) t) → run test (c ∷ t) ≡ (take (prefix_len test (c ∷ t)) (c ∷ t), drop (prefix_len test (c ∷ t)) (c ∷ t))
    by_test true e rest = rw (e, one-add) (ap (with_char c) rest)
    by_test false e rest = rw e refl

pub run_parts : (t : Text) → (run is_digit t).0 ++ (run is_digit t).1 ≡ t
run_parts t = rw (run_is is_digit t) (take-append-drop (prefix_len is_digit t) t)

pub run_digits : (t : Text) → list_all is_digit (run is_digit t).0 ≡ true
unfolding run
run_digits [] = refl
run_digits (c ∷ t) = by_test (is_digit c) refl (run_digits t)
  where
    by_test : (b : Bool) → is_digit c ≡ b → list_all is_digit (run is_digit t).0 ≡ true → list_all is_digit (run is_digit (c ∷ t)).0 ≡ true
    by_test true e rest = rw e (and_from (is_digit c) (list_all is_digit (run is_digit t).0) e rest)
    by_test false e rest = rw e refl

-- digits before what doesn't begin with one
pub run_again : (digits t : Text) → list_all is_digit digits ≡ true → run is_digit t ≡ ([], t) → run is_digit (digits ++ t) ≡ (digits, t)
unfolding run
run_again [] t all stops = stops
run_again (d ∷ ds) t all stops =
    let h = and_parts (is_digit d) (list_all is_digit ds) all in
    let e = h.0 in
    rw e (ap (with_char d) (run_again ds t h.1 stops))

-- ---- steps that may fail

pub bind_some : {A B : Type 0} (o : Option A) (f : A → Option B) (y : B) → (o >>= f) ≡ Some y → (x : A) × (o ≡ Some x) × (f x ≡ Some y)
unfolding ◌>>=◌
bind_some (Some x) f y e = (x, refl, e)
bind_some None f y e = absurd cc

pub when_some : {A : Type 0} (b : Bool) (o : Option A) (y : A) → when b o ≡ Some y → (b ≡ true) × (o ≡ Some y)
unfolding when
when_some true o y e = (refl, e)
when_some false o y e = absurd cc

pub when_no : {A : Type 0} (b : Bool) (o : Option A) → b ≡ false → when b o ≡ None
unfolding when
when_no true o e = absurd cc
when_no false o e = refl

pub when_yes : {A : Type 0} (b : Bool) (o : Option A) → b ≡ true → when b o ≡ o
unfolding when
when_yes true o e = refl
when_yes false o e = absurd cc

pub pair_is : {A B : Type 0} (p q : A × B) → Some p ≡ Some q → (p.0 ≡ q.0) × (p.1 ≡ q.1)
pair_is {A} {B} p q e = let k : p ≡ q = cc in (ap (λ (x : A × B). x.0) k, ap (λ (x : A × B). x.1) k)

-- ---- a character

pub behind_is : (c : ℕ) (t rest : Text) → after (c ∷ []) t ≡ Some rest → t ≡ c ∷ rest
unfolding after
behind_is c [] rest e = absurd cc
behind_is c (d ∷ t) rest e =
    let a = when_some (eqb c d) (Some t) rest e in
    let letter : c ≡ d = eqb-true _ _ a.0 in
    let behind : t ≡ rest = cc in
    ap (λ x. x ∷ t) (sym letter) ∙ ap (λ x. c ∷ x) behind

pub behind_yes : (c : ℕ) (rest : Text) → after (c ∷ []) (c ∷ rest) ≡ Some rest
unfolding after
behind_yes c rest = when_yes (eqb c c) (Some rest) (eq-eqb c c refl)
