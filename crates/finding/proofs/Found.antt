-- What is found of a list.
use Rattle.std.proofs.Common.{◌≡◌, ◌<◌, suc, zero, arith, ap, ap₂, map, subst, Bool, true, false, ◌||◌, List, [], ◌∷◌, cond, refl, Option, Some, None, option_map}
use Rattle.std.specs.Prelude.{is_some}
use Rattle.std.specs.List.{Contains, find, list_any}
use Rattle.std.proofs.lemmas.List.Elements.{Contains-append_left, Contains-append_right}

-- it stands in the list, and passes
pub record IsFound {X : Type 0} (test : X → Bool) (xs : List X) (x : X) : Type 0 where
  pub stands : Contains xs x
  pub passes : test x ≡ true

pub found : {X : Type 0} (test : X → Bool) (xs : List X) (x : X) → find test xs ≡ Some x → IsFound test xs x
found test [] x is = absurd cc
found {X} test (y ∷ ys) x is = by_test (test y) refl (found test ys x) is
  where
    by_test : (b : Bool) → test y ≡ b → (find test ys ≡ Some x → IsFound test ys x) → cond b (Some y) (find test ys) ≡ Some x → IsFound test (y ∷ ys) x
    by_test true hit further here =
        let e : y ≡ x = cc in
        let P : X → Type 0 = λ z. IsFound test (y ∷ ys) z in
        subst P e (record { stands = Contains-append_left (y ∷ []) ys y (0, omega arith, refl); passes = hit })
    by_test false miss further there =
        let h = further there in
        record { stands = Contains-append_right (y ∷ []) ys x h.stands; passes = h.passes }

-- whether one is
pub any_found : {X : Type 0} (test : X → Bool) (xs : List X) (x : X) → find test xs ≡ Some x → list_any test xs ≡ true
any_found test [] x is = absurd cc
any_found test (y ∷ ys) x is = by_test (test y) (any_found test ys x) is
  where
    by_test : (b : Bool) → (find test ys ≡ Some x → list_any test ys ≡ true) → cond b (Some y) (find test ys) ≡ Some x → (b || list_any test ys) ≡ true
    by_test true further here = refl
    by_test false further there = further there

pub none_found : {X : Type 0} (test : X → Bool) (xs : List X) → find test xs ≡ None → list_any test xs ≡ false
none_found test [] is = refl
none_found test (y ∷ ys) is = by_test (test y) (none_found test ys) is
  where
    by_test : (b : Bool) → (find test ys ≡ None → list_any test ys ≡ false) → cond b (Some y) (find test ys) ≡ None → (b || list_any test ys) ≡ false
    by_test true further here = absurd cc
    by_test false further there = further there

-- in a list of values of a function
pub any_mapped : {X Y : Type 0} (f : X → Y) (test : Y → Bool) (xs : List X) → list_any test (map f xs) ≡ list_any (λ x. test (f x)) xs
any_mapped f test [] = refl
any_mapped f test (x ∷ xs) = ap (λ b. test (f x) || b) (any_mapped f test xs)

pub stands_mapped : {X Y : Type 0} (f : X → Y) (xs : List X) (x : X) → Contains xs x → Contains (map f xs) (f x)
stands_mapped f [] x (k, lt, is) = absurd (omega arith)
stands_mapped f (y ∷ ys) x (zero, lt, is) =
    Contains-append_left (f y ∷ []) (map f ys) (f x) (0, omega arith, ap f is)
stands_mapped f (y ∷ ys) x (suc k, lt, is) =
    Contains-append_right (f y ∷ []) (map f ys) (f x) (stands_mapped f ys x (k, omega arith, is))

-- what an option has
pub found_is_some : {X : Type 0} (test : X → Bool) (xs : List X) → is_some (find test xs) ≡ list_any test xs
found_is_some test [] = refl
found_is_some test (x ∷ xs) = by_test (test x) (found_is_some test xs)
  where
    by_test : (b : Bool) → is_some (find test xs) ≡ list_any test xs → is_some (cond b (Some x) (find test xs)) ≡ (b || list_any test xs)
    by_test true more = refl
    by_test false more = more

pub mapped_is_some : {X Y : Type 0} (f : X → Y) (o : Option X) → is_some (option_map f o) ≡ is_some o
mapped_is_some f None = refl
mapped_is_some f (Some x) = refl

-- tests that are the same
pub any_same : {X : Type 0} (p q : X → Bool) → ((x : X) → p x ≡ q x) → (xs : List X) → list_any p xs ≡ list_any q xs
any_same p q same [] = refl
any_same p q same (x ∷ xs) = ap₂ ◌||◌ (same x) (any_same p q same xs)
