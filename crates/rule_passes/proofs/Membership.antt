-- Names among names.
use Rattle.std.proofs.Common.{◌≡◌, ℕ, Bool, true, false, ◌||◌, List, [], ◌∷◌, refl, sym, ap, ap₂, ◌∙◌}
use Rattle.std.specs.Prelude.{reverse}
use Rattle.std.specs.List.{list_any}
use Rattle.std.specs.Str.{bytes_eq}
use Rattle.std.proofs.lemmas.Grind.{reverse_onto}
use Rattle.std.proofs.lemmas.List.Folds.{list_any-append}
use Rattle.std.proofs.lemmas.Slice.Eq.{bytes_eq-Decides}
use Rattle.meaning.specs.Uses.{is_one_of}

pub or_false : (b : Bool) → (b || false) ≡ b
or_false true = refl
or_false false = refl

pub or_swap : (a b : Bool) → (a || b) ≡ (b || a)
or_swap true true = refl
or_swap true false = refl
or_swap false true = refl
or_swap false false = refl

pub bytes_eq-sym : (a b : List ℕ) → bytes_eq a b ≡ bytes_eq b a
bytes_eq-sym a b = by_tests (bytes_eq a b) (bytes_eq b a) refl refl
  where
    by_tests : (s t : Bool) → bytes_eq a b ≡ s → bytes_eq b a ≡ t → s ≡ t
    by_tests true t is other =
        sym ((bytes_eq-Decides b a).1 (sym ((bytes_eq-Decides a b).0 is))) ∙ other
    by_tests false false is other = refl
    by_tests false true is other =
        sym is ∙ (bytes_eq-Decides a b).1 (sym ((bytes_eq-Decides b a).0 other))

-- the order of a list doesn't matter
pub any_reversed : {X : Type 0} (f : X → Bool) (xs : List X) → list_any f (reverse xs) ≡ list_any f xs
any_reversed f [] = refl
any_reversed f (x ∷ xs) =
    ap (list_any f) (reverse_onto xs x []) ∙ list_any-append f (reverse xs) (x ∷ [])
    ∙ ap₂ ◌||◌ (any_reversed f xs) (or_false (f x)) ∙ or_swap (list_any f xs) (f x)

-- names that are sought among others, in either order
pub sought_reversed : (names : List (List ℕ)) (n : List ℕ) → list_any (bytes_eq n) (reverse names) ≡ list_any (bytes_eq n) names
sought_reversed names n = any_reversed (bytes_eq n) names

-- whether one of some names is a name or one of others
pub one_of_more : (v : List ℕ) (around ns : List (List ℕ)) → list_any (is_one_of (v ∷ around)) ns ≡ (is_one_of ns v || list_any (is_one_of around) ns)
one_of_more v around [] = refl
one_of_more v around (n ∷ ns) =
    ap₂ (λ a b. (a || is_one_of around n) || b) (bytes_eq-sym n v) (one_of_more v around ns)
    ∙ regroup (bytes_eq v n) (is_one_of around n) (is_one_of ns v) (list_any (is_one_of around) ns)
  where
    regroup : (a b c d : Bool) → ((a || b) || (c || d)) ≡ ((a || c) || (b || d))
    regroup true b c d = refl
    regroup false true true d = refl
    regroup false true false d = refl
    regroup false false c d = refl

pub none_of : (ns : List (List ℕ)) → list_any (is_one_of []) ns ≡ false
none_of [] = refl
none_of (n ∷ ns) = none_of ns
