-- The least pair of joined lists.
use Rattle.std.proofs.Common.{◌≡◌, Bool, true, false, List, [], ◌∷◌, ◌++◌, Option, Some, None, refl, ap, ◌∙◌, arith}
use Rattle.std.proofs.lemmas.Bool.Decides.{nat_tests}
use Rattle.std.specs.List.{flat_map}
use Rattle.std.proofs.lemmas.List.{append-nil}
use Rattle.std.proofs.lemmas.Grind.{flat_map-append}
use Rattle.meaning.specs.declared.refusal.Broken.{Broken}
use Rattle.meaning.specs.Refusals.{merge, is_less, lesser, lesser_of, least}

less_trans : (a b c : Broken) → is_less a b ≡ true → is_less b c ≡ true → is_less a c ≡ true
less_trans a b c p q = grind (arith, nat_tests)

-- what isn't less stands in order the other way
not_less_trans : (a b c : Broken) → is_less b a ≡ false → is_less c b ≡ false → is_less c a ≡ false
not_less_trans a b c p q = grind (arith, nat_tests)

pub lesser-lesser : (a b c : Broken) → lesser a (lesser b c) ≡ lesser (lesser a b) c
lesser-lesser a b c =
    by_tests (is_less b a) (is_less c b) (is_less c a) refl refl refl
  where
    by_tests : (x y z : Bool) → is_less b a ≡ x → is_less c b ≡ y → is_less c a ≡ z → lesser a (lesser b c) ≡ lesser (lesser a b) c
    by_tests true true z e f g = let h = less_trans c b a f e in rw (f, e, h, f) refl
    by_tests true false z e f g = rw (f, e, f) refl
    by_tests false true z e f g = rw (f, e, g) refl
    by_tests false false z e f g = let h = not_less_trans a b c e f in rw (f, e, h) refl

lesser_of-merge : (a : Broken) (o p : Option Broken) → lesser_of a (merge o p) ≡ lesser_of (lesser_of a o) p
lesser_of-merge a None p = refl
lesser_of-merge a (Some b) None = refl
lesser_of-merge a (Some b) (Some c) = lesser-lesser a b c

pub merge-merge : (o p q : Option Broken) → merge o (merge p q) ≡ merge (merge o p) q
merge-merge None p q = refl
merge-merge (Some a) p q = ap Some (lesser_of-merge a p q)

pub least-append : (xs ys : List Broken) → least (xs ++ ys) ≡ merge (least xs) (least ys)
least-append [] ys = refl
least-append (x ∷ xs) ys = ap (λ o. Some (lesser_of x o)) (least-append xs ys) ∙ ap Some (lesser_of-merge x (least xs) (least ys))

-- the least of what a test finds among members, one more at the end
pub least-push : {A : Type 0} (f : A → List Broken) (xs : List A) (x : A) → least (flat_map f (xs ++ x ∷ [])) ≡ merge (least (flat_map f xs)) (least (f x))
least-push f xs x = ap least (flat_map-append f xs (x ∷ []) ∙ ap (λ ys. flat_map f xs ++ ys) (append-nil (f x))) ∙ least-append (flat_map f xs) (f x)
