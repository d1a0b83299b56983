-- The map that the values of the cells stand for is the one that a program starts with.
use Rattle.std.proofs.Common.{◌≡◌, ℕ, ◌+◌, ◌<◌, ℤ, pos, Bool, true, false, ◌&&◌, List, [], ◌∷◌, ◌++◌, length, get_or, cond, Option, Some, None, option_map, unwrap_or, refl, sym, ap, ap₂, subst, ◌∙◌, arith}
use Rattle.std.specs.Prelude.{◌==◌, ◌||◌, if◌then◌else◌}
use Rattle.std.specs.Cmp.Lexicographic.{pointwise}
use Rattle.std.specs.List.{AllByRecursion, fold, list_any}
use Rattle.std.specs.Ordering.{int_eq}
use Rattle.std.specs.Str.{bytes_eq}
use Rattle.std.proofs.Math.Path.{fun_ext}
use Rattle.std.proofs.lemmas.Bool.{false≢true}
use Rattle.std.proofs.lemmas.List.{get_or-append-add, get_or_append_left, length-append}
use Rattle.std.proofs.lemmas.List.FromFn.{get_or-map-range_with_len, length-map-range_with_len}
use Rattle.std.proofs.lemmas.Option.{unwrap_or-slice_get}
use Rattle.std.specs.Cmp.Rules.{signed_items}
use Rattle.std.proofs.lemmas.Slice.Eq.{bytes_eq-Decides}
use Rattle.meaning.specs.declared.ending.Value.{Value}
use Rattle.meaning.specs.Arrays.{cells_of, place, size}
use Rattle.meaning.specs.Initial.{Start, same_target, starts_from, starts_at, starts_or_none, sets_at, target}
use Rattle.meaning.specs.Maps.{Map, put, start}
use Rattle.meaning.specs.NumberRules.{known_behind_all}
use Rattle.meaning.specs.Stores.{known, overlay}
use Rattle.meaning.specs.Syntax.{ItemTree}
use Rattle.meaning.specs.Typing.{Names}
use Rattle.meaning.specs.Uses.{Symbols}
use Rattle.meaning.specs.Values.{Arrays, as_integer, dimensions_in}
use Rattle.array_store.specs.Whole.{world_of}
use Rattle.data_rules.specs.DataSets.{HasPlace, given_behind, given_by, nothing, place_at, place_of}
use Rattle.data_rules.specs.DataStages.{Found, with_found}
use Rattle.data_rules.proofs.DataPairing.{Each, IfEach, sets_placed}
use Rattle.data_rules.proofs.DataStarting.{same_place}
use Rattle.k_rules.specs.declared.verdict.Facts.{Facts}
use Rattle.k_rules.specs.Judged.{arrays_in, starts_in}
use Rattle.storage.specs.Numbered.{named}
use Rattle.checker.specs.Entries.{cells_at, first_of}
use Rattle.checker.specs.Given.{number_given, starts_by, values_of}

abbrev Placed : Names → Start → Type 0
Placed ns s = HasPlace ns s.target

-- ---- each start has a place

each_both : (ns : Names) (xs ys : List Start) → Each (Placed ns) xs → Each (Placed ns) ys → Each (Placed ns) (xs ++ ys)
each_both ns [] ys h k = k
each_both ns (x ∷ xs) ys h k = (h.0, each_both ns xs ys h.1 k)

or_none_placed : (ns : Names) (o : Option (List Start)) → IfEach (Placed ns) o → Each (Placed ns) (starts_or_none o)
or_none_placed ns None h = tt
or_none_placed ns (Some ss) h = h

pub all_placed : (r : Symbols) (before xs : List ItemTree) → Each (Placed r.names) (starts_from r before xs)
unfolding starts_from
all_placed r before [] = tt
all_placed r before (x ∷ xs) =
    each_both r.names (starts_or_none (starts_at r before x)) (starts_from r (before ++ x ∷ []) xs)
    (or_none_placed r.names (starts_at r before x) (sets_placed r (known_behind_all r before) (sets_at r before x)))
    (all_placed r (before ++ x ∷ []) xs)

-- ---- the map of what was given

abbrev pub number_if : (ℕ → Option Value) → Option ℕ → ℤ
number_if given None = pos 0
number_if given (Some i) = number_given (given i)

abbrev pub shown : Names → Found → Map
shown ns found = λ n ss. number_if (found n) (place_at ns (target n ss))

abbrev pub given_to : Map → Start → Map
given_to m s = put m s.target.name s.target.subscripts (as_integer s.value)

both_true : (a b : Bool) → (a && b) ≡ true → (a ≡ true) × (b ≡ true)
both_true true true h = (refl, refl)
both_true true false h = absurd (false≢true h)
both_true false b h = absurd (false≢true h)

module _ (ns : Names) where
  no_place : (s : Start) → HasPlace ns s.target → (n : List ℕ) (ss : List ℤ) → place_at ns (target n ss) ≡ None → same_target s.target (target n ss) ≡ true → ⊥
  no_place s at n ss none same =
      let both = both_true (bytes_eq s.target.name n) (pointwise int_eq s.target.subscripts ss) same in
      let here : place_at ns s.target ≡ place_at ns (target n ss) =
      ap₂ (λ p ts. place (dimensions_in (ns.arrays p)) ts) ((bytes_eq-Decides s.target.name n).0 both.0) ((signed_items s.target.subscripts ss).0 both.1) in
      some_none at.0 (sym at.1 ∙ here ∙ none)
    where
      some_none : (i : ℕ) → Some i ≡ None → ⊥
      some_none i e = absurd cc

  shown_more : (found : Found) (s : Start) → HasPlace ns s.target → given_to (shown ns found) s ≡ shown ns (with_found s.target.name (place_of ns s) s.value found)
  unfolding put
  shown_more found s at = fun_ext (λ n. fun_ext (λ ss. by_place n ss (place_at ns (target n ss)) refl))
    where
      by_place : (n : List ℕ) (ss : List ℤ) (o : Option ℕ) → place_at ns (target n ss) ≡ o → (if same_target s.target (target n ss) then as_integer s.value else number_if (found n) o) ≡ number_if (with_found s.target.name (place_of ns s) s.value found n) o
      by_place n ss None none = by_test (same_target s.target (target n ss)) refl
        where
          by_test : (b : Bool) → same_target s.target (target n ss) ≡ b → (if b then as_integer s.value else pos 0) ≡ pos 0
          by_test true same = absurd (no_place s at n ss none same)
          by_test false other = refl
      by_place n ss (Some i) is =
          let t : Start = record { target = target n ss; value = s.value } in
          let test : (bytes_eq n s.target.name && (place_of ns s == i)) ≡ same_target s.target (target n ss) =
          ap (λ j. bytes_eq n s.target.name && (place_of ns s == j)) (sym (ap (λ o. unwrap_or o 0) is)) ∙ same_place ns s t at (i, is) in
          ap (λ b. if b then as_integer s.value else number_given (found n i)) (sym test) ∙ by_test (bytes_eq n s.target.name && (place_of ns s == i))
        where
          by_test : (b : Bool) → (if b then as_integer s.value else number_given (found n i)) ≡ number_given (if b then Some s.value else found n i)
          by_test true = refl
          by_test false = refl

  pub all_shown : (ss : List Start) (found : Found) → Each (Placed ns) ss → fold given_to (shown ns found) ss ≡ shown ns (given_behind ns ss found)
  all_shown [] found placed = refl
  all_shown (s ∷ ss) found placed =
      ap (λ m. fold given_to m ss) (shown_more found s placed.0) ∙ all_shown ss (with_found s.target.name (place_of ns s) s.value found) placed.1

  pub nothing_shown : start ≡ shown ns nothing
  unfolding start
  nothing_shown = fun_ext (λ n. fun_ext (λ ss. by (place_at ns (target n ss))))
    where
      by : (o : Option ℕ) → pos 0 ≡ number_if (λ i. None) o
      by None = refl
      by (Some i) = refl

-- ---- the values of the cells, one name's behind another's

module _ (f : Facts) where
  many_of : (n : List ℕ) → length (values_of f n) ≡ cells_at f n
  many_of n = length-map-range_with_len (λ i. number_given (starts_in f n i)) 0 (cells_at f n)

  pub many_by : (names : List (List ℕ)) → length (starts_by f names) ≡ cells_of (named (arrays_in f) names)
  many_by [] = refl
  many_by (x ∷ names) = length-append (values_of f x) (starts_by f names) ∙ ap₂ ◌+◌ (many_of x) (many_by names)

  own_value : (n : List ℕ) (i : ℕ) → i < cells_at f n → get_or (values_of f n) i (pos 0) ≡ number_given (starts_in f n i)
  own_value n i lt = get_or-map-range_with_len (λ j. number_given (starts_in f n j)) 0 (cells_at f n) i i (pos 0) lt (zero_more i)
    where
      zero_more : (k : ℕ) → 0 + k ≡ k
      zero_more k = omega arith

  module _ (n : List ℕ) (i : ℕ) (lt : i < cells_at f n) where
    pub value_by : (names : List (List ℕ)) (c : ℕ) → first_of (named (arrays_in f) names) n ≡ Some c → get_or (starts_by f names) (c + i) (pos 0) ≡ number_given (starts_in f n i)
    value_by [] c is = absurd cc
    value_by (x ∷ names) c is = by_test (bytes_eq n x) refl is (λ d. value_by names d)
      where
        rest : List ℤ
        rest = starts_by f names

        behind : (d : ℕ) → first_of (named (arrays_in f) names) n ≡ Some d → ((d : ℕ) → first_of (named (arrays_in f) names) n ≡ Some d → get_or rest (d + i) (pos 0) ≡ number_given (starts_in f n i)) → get_or (values_of f x ++ rest) ((cells_at f x + d) + i) (pos 0) ≡ number_given (starts_in f n i)
        behind d at more =
            let shifted : (cells_at f x + d) + i ≡ length (values_of f x) + (d + i) = grouped (cells_at f x) d i ∙ ap (λ k. k + (d + i)) (sym (many_of x)) in
            ap (λ k. get_or (values_of f x ++ rest) k (pos 0)) shifted ∙ get_or-append-add (values_of f x) rest (d + i) (pos 0) ∙ more d at
          where
            grouped : (a b k : ℕ) → (a + b) + k ≡ a + (b + k)
            grouped a b k = omega arith

        by_first : (o : Option ℕ) → first_of (named (arrays_in f) names) n ≡ o → option_map (λ d. cells_at f x + d) o ≡ Some c → ((d : ℕ) → first_of (named (arrays_in f) names) n ≡ Some d → get_or rest (d + i) (pos 0) ≡ number_given (starts_in f n i)) → get_or (values_of f x ++ rest) (c + i) (pos 0) ≡ number_given (starts_in f n i)
        by_first None at e more = absurd cc
        by_first (Some d) at e more =
            ap (λ k. get_or (values_of f x ++ rest) (k + i) (pos 0)) (sym (ap (λ o. unwrap_or o c) e)) ∙ behind d at more

        by_test : (b : Bool) → bytes_eq n x ≡ b → (if b then Some 0 else option_map (λ d. cells_at f x + d) (first_of (named (arrays_in f) names) n)) ≡ Some c → ((d : ℕ) → first_of (named (arrays_in f) names) n ≡ Some d → get_or rest (d + i) (pos 0) ≡ number_given (starts_in f n i)) → get_or (values_of f x ++ rest) (c + i) (pos 0) ≡ number_given (starts_in f n i)
        by_test true same e more =
            let here : n ≡ x = (bytes_eq-Decides n x).0 same in
            let inside : i < length (values_of f x) = subst (λ k. i < k) (ap (cells_at f) here ∙ sym (many_of x)) lt in
            ap (λ k. get_or (values_of f x ++ rest) (k + i) (pos 0)) (sym (ap (λ o. unwrap_or o c) e)) ∙ front i
            ∙ get_or_append_left (values_of f x) rest (pos 0) i inside
            ∙ ap (λ y. get_or (values_of f y) i (pos 0)) (sym here) ∙ own_value n i lt
          where
            front : (k : ℕ) → get_or (values_of f x ++ rest) (0 + k) (pos 0) ≡ get_or (values_of f x ++ rest) k (pos 0)
            front k = ap (λ j. get_or (values_of f x ++ rest) j (pos 0)) (zero_more k)
              where
                zero_more : (k : ℕ) → 0 + k ≡ k
                zero_more k = omega arith
        by_test false other e more = by_first (first_of (named (arrays_in f) names) n) refl e more

pub known_value : (values : List ℤ) (c : ℕ) → known (world_of values) c ≡ get_or values c (pos 0)
unfolding known overlay
known_value values c = unwrap_or-slice_get values c (pos 0)

-- ---- names that were given nothing

apart_by : (ns : Names) (n : List ℕ) (ss : List Start) (found : Found) (i : ℕ) → AllByRecursion (λ s. bytes_eq n s.target.name ≡ false) ss → given_behind ns ss found n i ≡ found n i
apart_by ns n [] found i h = refl
apart_by ns n (s ∷ ss) found i h =
    apart_by ns n ss (with_found s.target.name (place_of ns s) s.value found) i h.1
    ∙ ap (λ b. if b && (place_of ns s == i) then Some s.value else found n i) h.0

-- a name that no start is for
pub given_nothing : (ns : Names) (n : List ℕ) (ss : List Start) (i : ℕ) → AllByRecursion (λ s. bytes_eq n s.target.name ≡ false) ss → given_by ns ss n i ≡ None
given_nothing ns n ss i h = apart_by ns n ss nothing i h

-- a name that isn't among those that starts are for
pub none_for : (n : List ℕ) (vs : List (List ℕ)) (ss : List Start) → list_any (bytes_eq n) vs ≡ false → AllByRecursion (λ s. list_any (bytes_eq s.target.name) vs ≡ true) ss → AllByRecursion (λ s. bytes_eq n s.target.name ≡ false) ss
none_for n vs [] other h = tt
none_for n vs (s ∷ ss) other h = (by (bytes_eq n s.target.name) refl, none_for n vs ss other h.1)
  where
    by : (b : Bool) → bytes_eq n s.target.name ≡ b → bytes_eq n s.target.name ≡ false
    by true same =
        absurd (false≢true (sym other ∙ ap (λ p. list_any (bytes_eq p) vs) ((bytes_eq-Decides n s.target.name).0 same) ∙ h.0))
    by false apart = apart

pub not_first : (arrays : Arrays) (n : List ℕ) (vs : List (List ℕ)) → first_of (named arrays vs) n ≡ None → list_any (bytes_eq n) vs ≡ false
not_first arrays n [] is = refl
not_first arrays n (x ∷ vs) is = by (bytes_eq n x) is (not_first arrays n vs)
  where
    by : (b : Bool) → (if b then Some 0 else option_map (λ c. size (dimensions_in (arrays x)) + c) (first_of (named arrays vs) n)) ≡ None → (first_of (named arrays vs) n ≡ None → list_any (bytes_eq n) vs ≡ false) → (b || list_any (bytes_eq n) vs) ≡ false
    by true h rest = absurd cc
    by false h rest = rest (none_behind (first_of (named arrays vs) n) h)
      where
        none_behind : (o : Option ℕ) → option_map (λ c. size (dimensions_in (arrays x)) + c) o ≡ None → o ≡ None
        none_behind None k = refl
        none_behind (Some c) k = absurd cc
