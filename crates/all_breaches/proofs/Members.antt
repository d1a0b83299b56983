-- One of a list, by recursion on the list.
use Rattle.std.proofs.Common.{◌≡◌, ℕ, zero, suc, ◌<◌, List, [], ◌∷◌, ◌++◌, length, get_or, refl, sym, subst, arith, inl, inr, ◌⊎◌}
use Rattle.std.specs.List.{AllByRecursion, Contains}

abbrev pub In : {X : Type 0} → X → List X → Type 0
In b [] = ⊥
In b (x ∷ xs) = (b ≡ x) ⊎ In b xs

pub in_at : {X : Type 0} (xs : List X) (b : X) (k : ℕ) → k < length xs → get_or xs k b ≡ b → In b xs
in_at [] b k lt is = absurd (omega arith)
in_at (x ∷ xs) b zero lt is = inl (sym is)
in_at (x ∷ xs) b (suc k) lt is = inr (in_at xs b k (omega arith) is)

pub in_from : {X : Type 0} (xs : List X) (b : X) → Contains xs b → In b xs
in_from xs b h = in_at xs b h.0 h.1 h.2

pub contains : {X : Type 0} (xs : List X) (b : X) → In b xs → Contains xs b
contains [] b h = absurd h
contains (x ∷ xs) b (inl e) = (0, omega arith, sym e)
contains (x ∷ xs) b (inr h) = let r = contains xs b h in (suc r.0, omega (arith, r.1), r.2)

pub in_left : {X : Type 0} (xs ys : List X) (b : X) → In b xs → In b (xs ++ ys)
in_left [] ys b h = absurd h
in_left (x ∷ xs) ys b (inl e) = inl e
in_left (x ∷ xs) ys b (inr h) = inr (in_left xs ys b h)

pub in_right : {X : Type 0} (xs ys : List X) (b : X) → In b ys → In b (xs ++ ys)
in_right [] ys b h = h
in_right (x ∷ xs) ys b h = inr (in_right xs ys b h)

pub in_either : {X : Type 0} (xs ys : List X) (b : X) → In b (xs ++ ys) → In b xs ⊎ In b ys
in_either [] ys b h = inr h
in_either (x ∷ xs) ys b (inl e) = inl (inl e)
in_either (x ∷ xs) ys b (inr h) = onward (in_either xs ys b h)
  where
    onward : In b xs ⊎ In b ys → In b (x ∷ xs) ⊎ In b ys
    onward (inl i) = inl (inr i)
    onward (inr i) = inr i

pub of_all : {X : Type 0} (P : X → Type 0) (xs : List X) (b : X) → AllByRecursion P xs → In b xs → P b
of_all P [] b h i = absurd i
of_all P (x ∷ xs) b h (inl e) = subst P (sym e) h.0
of_all P (x ∷ xs) b h (inr i) = of_all P xs b h.1 i

pub all_by : {X : Type 0} (P : X → Type 0) (xs : List X) → ((b : X) → In b xs → P b) → AllByRecursion P xs
all_by P [] h = tt
all_by P (x ∷ xs) h = (h x (inl refl), all_by P xs (λ b i. h b (inr i)))
