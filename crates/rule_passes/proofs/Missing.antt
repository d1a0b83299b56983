-- Tests of labels, one after another.
use Rattle.std.proofs.Common.{◌≡◌, ℕ, ◌+◌, ◌<◌, Bool, true, false, ◌||◌, List, [], ◌∷◌, ◌++◌, length, get_or, drop, map, refl, sym, ap, ◌∙◌}
use Rattle.std.specs.List.{list_any}
use Rattle.std.specs.Global.{Vec}
use Rattle.std.proofs.lemmas.List.{drop_more}
use Rattle.meaning.specs.Characters.{number_of}

or_false : (b : Bool) → b ≡ (b || false)
or_false true = refl
or_false false = refl

any_left : {X : Type 0} (f : X → Bool) (xs : List X) (i : ℕ) (x : X) → i < length xs → x ≡ get_or xs i x → list_any f (drop i xs) ≡ (f x || list_any f (drop (i + 1) xs))
any_left f xs i x lt is =
    ap (list_any f) (drop_more xs i x lt) ∙ ap (λ y. f y || list_any f (drop (i + 1) xs)) (sym is)

pub any_hit : {X : Type 0} (f : X → Bool) (xs : List X) (i : ℕ) (x : X) → i < length xs → x ≡ get_or xs i x → true ≡ f x → true ≡ list_any f (drop i xs)
any_hit f xs i x lt is hit = ap (λ b. b || list_any f (drop (i + 1) xs)) hit ∙ sym (any_left f xs i x lt is)

pub any_miss : {X : Type 0} (f : X → Bool) (xs : List X) (i : ℕ) (x : X) → i < length xs → x ≡ get_or xs i x → false ≡ f x → list_any f (drop (i + 1) xs) ≡ list_any f (drop i xs)
any_miss f xs i x lt is miss = ap (λ b. b || list_any f (drop (i + 1) xs)) miss ∙ sym (any_left f xs i x lt is)

pub any_one : (f : ℕ → Bool) (n : ℕ) (b : Bool) → b ≡ f n → b ≡ list_any f (n ∷ [])
any_one f n b is = is ∙ or_false (f n)

pub any_numbers : (f : ℕ → Bool) (labels : List (Vec ℕ)) → list_any (λ l. f (number_of l.items)) labels ≡ list_any f (map number_of (map (λ l. l.items) labels))
any_numbers f [] = refl
any_numbers f (l ∷ ls) = ap (λ b. f (number_of l.items) || b) (any_numbers f ls)

-- one of three
pub first_hit : (f : ℕ → Bool) (a b c : ℕ) → true ≡ f a → true ≡ list_any f (a ∷ (b ∷ (c ∷ [])))
first_hit f a b c hit = ap (λ x. x || (f b || (f c || false))) hit

pub second_hit : (f : ℕ → Bool) (a b c : ℕ) → false ≡ f a → true ≡ f b → true ≡ list_any f (a ∷ (b ∷ (c ∷ [])))
second_hit f a b c miss hit = ap (λ x. x || (f c || false)) hit ∙ ap (λ x. x || (f b || (f c || false))) miss

pub third : (f : ℕ → Bool) (a b c : ℕ) (r : Bool) → false ≡ f a → false ≡ f b → r ≡ f c → r ≡ list_any f (a ∷ (b ∷ (c ∷ [])))
third f a b c r none neither is =
    any_one f c r is ∙ ap (λ x. x || (f c || false)) neither ∙ ap (λ x. x || (f b || (f c || false))) none

pub any_both : {X : Type 0} (f : X → Bool) (xs ys : List X) → list_any f (xs ++ ys) ≡ (list_any f xs || list_any f ys)
any_both f [] ys = refl
any_both f (x ∷ xs) ys = ap (λ b. f x || b) (any_both f xs ys) ∙ or_assoc (f x) (list_any f xs) (list_any f ys)
  where
    or_assoc : (a b c : Bool) → (a || (b || c)) ≡ ((a || b) || c)
    or_assoc true b c = refl
    or_assoc false b c = refl
