-- What lists give, one list behind another.
use Rattle.std.proofs.Common.{◌≡◌, ℕ, zero, suc, ◌+◌, ◌-◌, ◌^◌, ◌<◌, ◌≤◌, ℤ, Bool, true, false, min, List, [], ◌∷◌, ◌++◌, length, map, Option, Some, None, option_map, Result, Ok, Err, refl, sym, ap, subst, ◌∙◌, arith}
use Rattle.std.specs.Prelude.{if◌then◌else◌}
use Rattle.std.specs.List.{range_with_len}
use Rattle.std.specs.Result.{IfOk}
use Rattle.meaning.specs.Arrays.{Dimension, elements, place, size}
use Rattle.meaning.specs.Syntax.{ExprsTree}
use Rattle.meaning.specs.Typing.{Names}
use Rattle.meaning.specs.Values.{Known, dimensions_in}
use Rattle.meaning.specs.Initial.{Target, and_also, all_lists, both_lists, element_target, known_subscripts, target}
use Rattle.expressions.specs.Places.{capped}
use Rattle.data_rules.specs.DataPlaces.{place_known}
use Rattle.data_rules.specs.DataStages.{Stage, filled, give, give_all, give_places, give_target}
use Rattle.expressions.proofs.Ordered.{AreNumbered, elements-numbered, elements-length}

and_none : {A B : Type 0} (o : Option A) → and_also {B = B} o (λ x. None) ≡ None
and_none None = refl
and_none (Some x) = refl

and_assoc : {A B C : Type 0} (o : Option A) (f : A → Option B) (g : B → Option C) → and_also (and_also o f) g ≡ and_also o (λ x. and_also (f x) g)
and_assoc None f g = refl
and_assoc (Some x) f g = refl

pub same_given : {A E : Type 0} (r : Result Bool E) (f : Bool → A) {x y : A} → y ≡ x → IfOk r (λ b. x ≡ f b) → IfOk r (λ b. y ≡ f b)
same_given (Ok b) f same given = same ∙ given
same_given (Err e) f same given = tt

module _ (ns : Names) where
  give_append : (ts us : List Target) (s : Stage) → give_all ns (ts ++ us) s ≡ and_also (give_all ns ts s) (give_all ns us)
  give_append [] us s = refl
  give_append (t ∷ ts) us s = by_first (λ r. give_append ts us r) (give_target ns t s) ∙ sym (and_assoc (give_target ns t s) (give_all ns ts) (give_all ns us))
    where
      by_first : ((r : Stage) → give_all ns (ts ++ us) r ≡ and_also (give_all ns ts r) (give_all ns us)) → (o : Option Stage) → and_also o (give_all ns (ts ++ us)) ≡ and_also o (λ r. and_also (give_all ns ts r) (give_all ns us))
      by_first rest None = refl
      by_first rest (Some r) = rest r

  -- one list behind another
  pub filled_both : (o p : Option (List Target)) (s : Stage) → filled ns (both_lists o p) s ≡ and_also (filled ns o s) (filled ns p)
  filled_both None p s = refl
  filled_both (Some ts) None s = sym (and_none (give_all ns ts s))
  filled_both (Some ts) (Some us) s = give_append ts us s

  pub filled_one : (t : Target) (s : Stage) → filled ns (Some (t ∷ [])) s ≡ give_target ns t s
  filled_one t s = by_result (give_target ns t s)
    where
      by_result : (o : Option Stage) → and_also o (λ r. Some r) ≡ o
      by_result None = refl
      by_result (Some r) = refl

  -- ---- variables and elements

  last_given : (o : Option Stage) → o ≡ and_also o (λ r. Some r)
  last_given None = refl
  last_given (Some r) = refl

  pub filled_variable : (n : List ℕ) (s : Stage) → ns.arrays n ≡ None → filled ns (Some (target n [] ∷ [])) s ≡ give_places ns.types n (range_with_len 0 1) s
  filled_variable n s none =
      ap (λ o. and_also (and_also o (λ i. give ns.types n i s)) (λ r. Some r)) (ap (λ a. place (dimensions_in a) []) none)

  module _ (known : Known) (n : List ℕ) (ds : List Dimension) (es : ExprsTree) (s : Stage) (is : ns.arrays n ≡ Some ds) where
    pub by_subscripts : (o : Option (List ℤ)) → filled ns (and_also o (λ ss. Some (target n ss ∷ []))) s ≡ and_also (and_also o (place ds)) (λ i. give ns.types n i s)
    by_subscripts None = refl
    by_subscripts (Some ss) =
        filled_one (target n ss) s ∙ ap (λ a. and_also (place (dimensions_in a) ss) (λ i. give ns.types n i s)) is

    module _ {E : Type 0} (t : Stage) (r : Result Bool E) (k : ℕ) (given : (i : ℕ) → k ≡ capped i → IfOk r (λ b. give_places ns.types n (range_with_len i 1) s ≡ (if b then Some t else None))) where
      by_place : (o : Option ℕ) → place_known ns.types known ds es ≡ o → Some k ≡ option_map capped o → IfOk r (λ b. filled ns (element_target ns.types known (Some ds) n es) s ≡ (if b then Some t else None))
      by_place None e some = absurd cc
      by_place (Some i) e some =
          let same : k ≡ capped i = cc in
          same_given r (λ b. if b then Some t else None)
          (by_subscripts (known_subscripts ns.types known ds es) ∙ ap (λ o. and_also o (λ j. give ns.types n j s)) e ∙ last_given (give ns.types n i s)) (given i same)

      -- an element whose place is counted to 2^64-1
      pub element_given : Some k ≡ option_map capped (place_known ns.types known ds es) → IfOk r (λ b. filled ns (element_target ns.types known (Some ds) n es) s ≡ (if b then Some t else None))
      element_given some = by_place (place_known ns.types known ds es) refl some

  -- ---- whole arrays

  by_places : (n : List ℕ) (ds : List Dimension) → ns.arrays n ≡ Some ds → (sss : List (List ℤ)) (i : ℕ) (s : Stage) → AreNumbered (place ds) i sss → give_all ns (map (target n) sss) s ≡ give_places ns.types n (range_with_len i (length sss)) s
  by_places n ds is [] i s h = refl
  by_places n ds is (ss ∷ sss) i s h =
      ap (λ o. and_also (and_also o (λ k. give ns.types n k s)) (give_all ns (map (target n) sss))) (ap (λ a. place (dimensions_in a) ss) is ∙ h.0)
      ∙ by_first (λ r. by_places n ds is sss (i + 1) r (subst (λ k. AreNumbered (place ds) k sss) (one_more i) h.1)) (give ns.types n i s)
    where
      one_more : (k : ℕ) → suc k ≡ k + 1
      one_more k = omega arith

      by_first : ((r : Stage) → give_all ns (map (target n) sss) r ≡ give_places ns.types n (range_with_len (i + 1) (length sss)) r) → (o : Option Stage) → and_also o (give_all ns (map (target n) sss)) ≡ and_also o (give_places ns.types n (range_with_len (i + 1) (length sss)))
      by_first rest None = refl
      by_first rest (Some r) = rest r

  pub filled_whole : (n : List ℕ) (ds : List Dimension) (s : Stage) → ns.arrays n ≡ Some ds → filled ns (Some (map (target n) (elements ds))) s ≡ give_places ns.types n (range_with_len 0 (size ds)) s
  filled_whole n ds s is =
      by_places n ds is (elements ds) 0 s (elements-numbered ds) ∙ ap (λ k. give_places ns.types n (range_with_len 0 k) s) (elements-length ds)

  -- places of which the first ones aren't all given values
  short_rest : (n : List ℕ) (i k m : ℕ) → ((r : Stage) → give_places ns.types n (range_with_len i k) r ≡ None → give_places ns.types n (range_with_len i m) r ≡ None) → (o : Option Stage) → and_also o (give_places ns.types n (range_with_len i k)) ≡ None → and_also o (give_places ns.types n (range_with_len i m)) ≡ None
  short_rest n i k m rest None e = refl
  short_rest n i k m rest (Some r) e = rest r e

  short : (n : List ℕ) (i k m : ℕ) (s : Stage) → k ≤ m → give_places ns.types n (range_with_len i k) s ≡ None → give_places ns.types n (range_with_len i m) s ≡ None
  short n i zero m s le none = absurd cc
  short n i (suc k) zero s le none = absurd (omega arith)
  short n i (suc k) (suc m) s le none = short_rest n (i + 1) k m (λ r. short n (i + 1) k m r (omega arith)) (give ns.types n i s) none

  -- so many places, counted no further than to 2^64-1, which isn't reached where all are given values
  pub whole_capped : {E : Type 0} (n : List ℕ) (k m : ℕ) (s t : Stage) (r : Result Bool E) → k ≡ min m (2 ^ 64 - 1) → IfOk r (λ b. give_places ns.types n (range_with_len 0 k) s ≡ (if b then Some t else None)) → IfOk r (λ b. b ≡ true → k < 2 ^ 64 - 1) → IfOk r (λ b. give_places ns.types n (range_with_len 0 m) s ≡ (if b then Some t else None))
  whole_capped n k m s t (Ok false) e comes few = short n 0 k m s (omega (arith, e)) comes
  whole_capped n k m s t (Ok true) e comes few =
      let below = few refl in
      let same : k ≡ m = omega (arith, e, below) in
      ap (λ j. give_places ns.types n (range_with_len 0 j) s) (sym same) ∙ comes
  whole_capped n k m s t (Err x) e comes few = tt

  -- ---- trips

  -- the lists of trips, the first of which is left
  pub trips_first : {X : Type 0} (f : X → Option (List Target)) (x : X) (xs : List X) (s : Stage) → filled ns (all_lists (map f (x ∷ xs))) s ≡ and_also (filled ns (f x) s) (filled ns (all_lists (map f xs)))
  trips_first f x xs s = filled_both (f x) (all_lists (map f xs)) s
