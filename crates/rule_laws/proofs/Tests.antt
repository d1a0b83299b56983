-- Tests that fail, by themselves and along lists.
use Rattle.std.proofs.Common.{◌≡◌, Bool, true, false, ◌||◌, ◌&&◌, List, [], ◌∷◌, ◌++◌, refl, sym}
use Rattle.std.specs.Prelude.{map, not}
use Rattle.std.specs.List.{AllByRecursion, list_any}
use Rattle.std.proofs.lemmas.Bool.{true≢false}

pub or_parts : (a b : Bool) → (a || b) ≡ false → (a ≡ false) × (b ≡ false)
or_parts true b h = absurd (true≢false h)
or_parts false b h = (refl, h)

pub or_true : (b : Bool) → (b || true) ≡ true
or_true true = refl
or_true false = refl

pub not_true : (b : Bool) → not b ≡ false → b ≡ true
not_true true h = refl
not_true false h = absurd (true≢false h)

pub not_false : (b : Bool) → not b ≡ true → b ≡ false
not_false true h = absurd (true≢false (sym h))
not_false false h = refl

pub and_true : (a b : Bool) → (a && b) ≡ true → (a ≡ true) × (b ≡ true)
and_true true b h = (refl, h)
and_true false b h = absurd (true≢false (sym h))

-- of three tests all fail
pub all_other : (a b c : Bool) → a ≡ false → b ≡ false → c ≡ false → (not a && (not b && not c)) ≡ true
all_other false false false f g h = refl
all_other true b c f g h = absurd (true≢false f)
all_other false true c f g h = absurd (true≢false g)
all_other false false true f g h = absurd (true≢false h)

pub none_any : {A : Type 0} (test : A → Bool) (xs : List A) → list_any test xs ≡ false → AllByRecursion (λ x. test x ≡ false) xs
none_any test [] h = tt
none_any test (x ∷ xs) h = let p = or_parts (test x) (list_any test xs) h in (p.0, none_any test xs p.1)

pub all_parts : {A : Type 0} (holds : A → Type 0) (xs ys : List A) → AllByRecursion holds (xs ++ ys) → AllByRecursion holds xs × AllByRecursion holds ys
all_parts holds [] ys h = (tt, h)
all_parts holds (x ∷ xs) ys h = let p = all_parts holds xs ys h.1 in ((h.0, p.0), p.1)

pub all_both : {A : Type 0} (holds : A → Type 0) (xs ys : List A) → AllByRecursion holds xs → AllByRecursion holds ys → AllByRecursion holds (xs ++ ys)
all_both holds [] ys h k = k
all_both holds (x ∷ xs) ys h k = (h.0, all_both holds xs ys h.1 k)

pub all_turned : {A : Type 0} (P Q : A → Type 0) → ((x : A) → P x → Q x) → (xs : List A) → AllByRecursion P xs → AllByRecursion Q xs
all_turned P Q f [] h = tt
all_turned P Q f (x ∷ xs) h = (f x h.0, all_turned P Q f xs h.1)

pub all_mapped : {A B : Type 0} (holds : B → Type 0) (f : A → B) (xs : List A) → AllByRecursion holds (map f xs) → AllByRecursion (λ x. holds (f x)) xs
all_mapped holds f [] h = tt
all_mapped holds f (x ∷ xs) h = (h.0, all_mapped holds f xs h.1)
