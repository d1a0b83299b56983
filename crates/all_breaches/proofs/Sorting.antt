-- A sorted list of pairs from which those are taken that aren't above the one before.
use Rattle.std.proofs.Common.{◌≡◌, ℕ, suc, ◌≤◌, ◌<◌, Bool, true, false, cond, List, [], ◌∷◌, length, get_or, refl, sym, ap, subst, ◌∙◌, arith, inl, inr}
use Rattle.std.specs.Prelude.{not}
use Rattle.std.specs.Cmp.{IsStrictWeakOrder}
use Rattle.std.specs.List.{Contains, dedup}
use Rattle.std.specs.List.Sorted.{IsPermutation, IsSortedBy}
use Rattle.std.proofs.lemmas.Bool.Decides.{nat_tests}
use Rattle.std.proofs.lemmas.List.Sorted.{Contains-permutation, IsPermutation-sym, sorted_far}
use Rattle.meaning.specs.declared.refusal.Broken.{Broken}
use Rattle.meaning.specs.Ranks.{rank_of}
use Rattle.meaning.specs.Refusals.{is_less}
use Rattle.all_breaches.specs.Ordered.{AreApart, Ascends, HaveSame}
use Rattle.all_breaches.proofs.Members.{In, in_from, contains, all_by}

-- ---- the order of pairs

pub less_one_way : (a b : Broken) → is_less a b ≡ true → is_less b a ≡ false
less_one_way a b p = grind (arith, nat_tests)

pub less_chain : (a b c : Broken) → is_less a b ≡ false → is_less b c ≡ false → is_less a c ≡ false
less_chain a b c p q = grind (arith, nat_tests)

pub orders : IsStrictWeakOrder is_less
orders = record { one_way = less_one_way; chain = less_chain }

-- one that is less than another is less than what comes no earlier than that
less_over : (a b c : Broken) → is_less a b ≡ true → is_less c b ≡ false → is_less a c ≡ true
less_over a b c p q = grind (arith, nat_tests)

pub same_line : (a b : Broken) → is_less a b ≡ false → is_less b a ≡ false → a.line ≡ b.line
same_line a b p q = grind (arith, nat_tests)

pub same_rank : (a b : Broken) → is_less a b ≡ false → is_less b a ≡ false → rank_of a.rule ≡ rank_of b.rule
same_rank a b p q = grind (arith, nat_tests)

pub not_itself : (a : Broken) → is_less a a ≡ false
not_itself a = grind (arith, nat_tests)

-- ---- lists that are sorted

abbrev Rises : List Broken → Type 0
Rises [] = Unit {0}
Rises (b ∷ bs) = ((c : Broken) → In c bs → is_less c b ≡ false) × Rises bs

abbrev Far : List Broken → Type 0
Far xs = (i j : ℕ) (d : Broken) → i ≤ j → j < length xs → is_less (get_or xs j d) (get_or xs i d) ≡ false

rises : (xs : List Broken) → Far xs → Rises xs
rises [] far = tt
rises (b ∷ bs) far = (no_less, rises bs (λ i j d le lt. far (suc i) (suc j) d (omega arith) (omega arith)))
  where
    no_less : (c : Broken) → In c bs → is_less c b ≡ false
    no_less c h =
        let k = contains bs c h in
        ap (λ x. is_less x b) (sym k.2) ∙ far 0 (suc k.0) c (omega arith) (omega (arith, k.1))

-- ---- those that are above the one before

abbrev pub is_not_above : Broken → Broken → Bool
is_not_above x kept = not (is_less kept x)

abbrev pub thin : List Broken → List Broken
thin xs = dedup is_not_above xs

abbrev pub Apart : List Broken → Type 0
Apart xs =
    (a b : Broken) → In a xs → In b xs → a.line ≡ b.line → rank_of a.rule ≡ rank_of b.rule → a ≡ b

thin_in : (k : Broken) (xs : List Broken) (b : Broken) → In b (thin (k ∷ xs)) → In b (k ∷ xs)
thin_in k [] b h = h
thin_in k (x ∷ xs) b h = by_test (is_less k x) (thin_in k xs b) (thin_in x xs b) h
  where
    past : In b (k ∷ xs) → In b (k ∷ x ∷ xs)
    past (inl e) = inl e
    past (inr i) = inr (inr i)

    above : (In b (thin (x ∷ xs)) → In b (x ∷ xs)) → In b (k ∷ thin (x ∷ xs)) → In b (k ∷ x ∷ xs)
    above g (inl e) = inl e
    above g (inr i) = inr (g i)

    by_test : (t : Bool) → (In b (thin (k ∷ xs)) → In b (k ∷ xs)) → (In b (thin (x ∷ xs)) → In b (x ∷ xs)) → In b (cond (not t) (thin (k ∷ xs)) (k ∷ thin (x ∷ xs))) → In b (k ∷ x ∷ xs)
    by_test true f g i = above g i
    by_test false f g i = past (f i)

in_thin : (k : Broken) (xs : List Broken) (b : Broken) → Apart (k ∷ xs) → Rises (k ∷ xs) → In b (k ∷ xs) → In b (thin (k ∷ xs))
in_thin k [] b apart up h = h
in_thin k (x ∷ xs) b apart up h =
    by_test (is_less k x) refl
    (in_thin k xs b (λ a c p q. apart a c (past a p) (past c q)) ((λ c j. up.0 c (inr j)), up.1.1))
    (in_thin x xs b (λ a c p q. apart a c (inr p) (inr q)) up.1)
    h
  where
    past : (c : Broken) → In c (k ∷ xs) → In c (k ∷ x ∷ xs)
    past c (inl e) = inl e
    past c (inr i) = inr (inr i)

    skipped : is_less k x ≡ false → In b (k ∷ x ∷ xs) → In b (k ∷ xs)
    skipped t (inl e) = inl e
    skipped t (inr (inl e)) =
        let back : is_less x k ≡ false = up.0 x (inl refl) in
        inl (e ∙ apart x k (inr (inl refl)) (inl refl) (same_line x k back t) (same_rank x k back t))
    skipped t (inr (inr i)) = inr i

    above : (In b (x ∷ xs) → In b (thin (x ∷ xs))) → In b (k ∷ x ∷ xs) → In b (k ∷ thin (x ∷ xs))
    above g (inl e) = inl e
    above g (inr i) = inr (g i)

    by_test : (t : Bool) → is_less k x ≡ t → (In b (k ∷ xs) → In b (thin (k ∷ xs))) → (In b (x ∷ xs) → In b (thin (x ∷ xs))) → In b (k ∷ x ∷ xs) → In b (cond (not t) (thin (k ∷ xs)) (k ∷ thin (x ∷ xs)))
    by_test true t f g i = above g i
    by_test false t f g i = f (skipped t i)

thin_ascends : (k : Broken) (xs : List Broken) → Rises (k ∷ xs) → Ascends (thin (k ∷ xs))
thin_ascends k [] up = (tt, tt)
thin_ascends k (x ∷ xs) up =
    by_test (is_less k x) refl (thin_ascends k xs ((λ c j. up.0 c (inr j)), up.1.1)) (thin_ascends x xs up.1)
  where
    all_above : is_less k x ≡ true → (c : Broken) → In c (x ∷ xs) → is_less k c ≡ true
    all_above t c (inl e) = ap (is_less k) e ∙ t
    all_above t c (inr i) = less_over k x c t (up.1.0 c i)

    by_test : (t : Bool) → is_less k x ≡ t → Ascends (thin (k ∷ xs)) → Ascends (thin (x ∷ xs)) → Ascends (cond (not t) (thin (k ∷ xs)) (k ∷ thin (x ∷ xs)))
    by_test true t f g = (all_by (λ c. is_less k c ≡ true) (thin (x ∷ xs)) (λ c i. all_above t c (thin_in x xs c i)), g)
    by_test false t f g = f

-- ---- what is sorted

module _ (pairs sorted made : List Broken) (moved : IsPermutation pairs sorted) (up : IsSortedBy is_less sorted) (is : made ≡ thin sorted) where
  pub ascends : Ascends made
  ascends = subst Ascends (sym is) (by_list sorted (rises sorted (λ i j d le lt. sorted_far is_less orders sorted up i j d le lt)))
    where
      by_list : (xs : List Broken) → Rises xs → Ascends (thin xs)
      by_list [] h = tt
      by_list (x ∷ xs) h = thin_ascends x xs h

  pub has_same : AreApart pairs → HaveSame made pairs
  has_same apart b = (back, onward)
    where
      apart_sorted : Apart sorted
      apart_sorted a c p q =
          apart a c (Contains-permutation _ _ a (IsPermutation-sym _ _ moved) (contains sorted a p)) (Contains-permutation _ _ c (IsPermutation-sym _ _ moved) (contains sorted c q))

      thinned : (xs : List Broken) → In b (thin xs) → In b xs
      thinned [] h = h
      thinned (x ∷ xs) h = thin_in x xs b h

      kept : (xs : List Broken) → Apart xs → Rises xs → In b xs → In b (thin xs)
      kept [] h r i = i
      kept (x ∷ xs) h r i = in_thin x xs b h r i

      back : Contains made b → Contains pairs b
      back h =
          Contains-permutation _ _ b (IsPermutation-sym _ _ moved) (contains sorted b (thinned sorted (in_from (thin sorted) b (subst (λ xs. Contains xs b) is h))))

      onward : Contains pairs b → Contains made b
      onward h =
          subst (λ xs. Contains xs b) (sym is) (contains (thin sorted) b (kept sorted apart_sorted (rises sorted (λ i j d le lt. sorted_far is_less orders sorted up i j d le lt)) (in_from sorted b (Contains-permutation _ _ b moved h))))
