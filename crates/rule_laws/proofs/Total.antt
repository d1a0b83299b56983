-- The arrays of a program unit that keeps the rules have 16,777,216 elements at most together.
use Rattle.std.proofs.Common.{◌≡◌, ◌≤◌, ℕ, ◌+◌, Bool, true, false, ◌&&◌, ◌||◌, List, [], ◌∷◌, ◌++◌, append_assoc, append-nil, length, map, Option, Some, None, refl, sym, ap, subst, ◌∙◌, arith}
use Rattle.std.specs.Prelude.{if◌then◌else◌, nat_lt, not, sum_by}
use Rattle.std.specs.List.{AllByRecursion, list_any}
use Rattle.std.specs.Str.{bytes_eq}
use Rattle.std.proofs.lemmas.Bool.{ltb-false, true≢false}
use Rattle.std.proofs.lemmas.List.Folds.{list_any-append}
use Rattle.std.proofs.lemmas.List.Sums.{sum_by-cons}
use Rattle.std.proofs.lemmas.Slice.Eq.{bytes_eq-Decides}
use Rattle.meaning.specs.Arrays.{Dimension, size}
use Rattle.meaning.specs.NumberRules.{dimensions_by, elements_in, elements_of, have_too_large, is_reversed, is_too_large, known_behind_all, lacks_bound}
use Rattle.meaning.specs.Scopes.{arrays_from, arrays_of, declarators_in, dimension_of, dimensions_in, known_behind, or_dimensions}
use Rattle.meaning.specs.Syntax.{DeclaratorTree, ItemTree}
use Rattle.meaning.specs.Types.{Types, types_of}
use Rattle.meaning.specs.Uses.{Symbols, symbols_of}
use Rattle.meaning.specs.Values.{Known}
use Rattle.name_maps.specs.NameSets.{with_name, with_names}
use Rattle.rule_laws.specs.Lawful.{EachBehind, IsLawful}
use Rattle.rule_laws.proofs.Constants.{AreTyped, more_typed}
use Rattle.rule_laws.proofs.Sizes.{known_more, nothing_typed, statement_bounds}
use Rattle.rule_laws.proofs.Tests.{or_parts}

-- ---- names of which none stands twice

abbrev pub AreDistinct : List (List ℕ) → Type 0
AreDistinct [] = Unit {0}
AreDistinct (n ∷ ns) = (list_any (bytes_eq n) ns ≡ false) × AreDistinct ns

not_same : (n m : List ℕ) → bytes_eq n m ≡ false → bytes_eq m n ≡ false
not_same n m other = by (bytes_eq m n) refl
  where
    by : (b : Bool) → bytes_eq m n ≡ b → bytes_eq m n ≡ false
    by true same = absurd (true≢false (sym ((bytes_eq-Decides n m).1 (sym ((bytes_eq-Decides m n).0 same))) ∙ other))
    by false is = is

one_behind : (ns : List (List ℕ)) (n : List ℕ) → AreDistinct ns → list_any (bytes_eq n) ns ≡ false → AreDistinct (ns ++ n ∷ [])
one_behind [] n h none = (refl, tt)
one_behind (m ∷ ns) n h none =
    let p = or_parts (bytes_eq n m) (list_any (bytes_eq n) ns) none in
    (list_any-append (bytes_eq m) ns (n ∷ []) ∙ both (list_any (bytes_eq m) ns) (bytes_eq m n) h.0 (not_same n m p.0), one_behind ns n h.1 p.1)
  where
    both : (a b : Bool) → a ≡ false → b ≡ false → (a || (b || false)) ≡ false
    both false false f g = refl
    both true b f g = absurd (true≢false f)
    both false true f g = absurd (true≢false g)

pub distinct_names : (names more : List (List ℕ)) → AreDistinct names → AreDistinct (with_names names more)
distinct_names names [] h = h
distinct_names names (n ∷ more) h = distinct_names (with_name names n) more (by (list_any (bytes_eq n) names) refl)
  where
    by : (b : Bool) → list_any (bytes_eq n) names ≡ b → AreDistinct (if b then names else names ++ n ∷ [])
    by true there = h
    by false none = one_behind names n h none

abbrev only : List ℕ → ℕ → List ℕ → ℕ
only m e n = if bytes_eq n m then e else 0

none_of : (m : List ℕ) (e : ℕ) (ns : List (List ℕ)) → list_any (bytes_eq m) ns ≡ false → sum_by (only m e) ns ≡ 0
none_of m e [] none = refl
none_of m e (n ∷ ns) none =
    let p = or_parts (bytes_eq m n) (list_any (bytes_eq m) ns) none in
    let first : only m e n ≡ 0 = ap (λ b. if b then e else 0) (not_same m n p.0) in
    let rest = none_of m e ns p.1 in
    let whole = sum_by-cons (only m e) n ns in
    omega (arith, first, rest, whole)

-- one of them at most is this one
one_at_most : (m : List ℕ) (e : ℕ) (ns : List (List ℕ)) → AreDistinct ns → sum_by (only m e) ns ≤ e
one_at_most m e [] h = omega arith
one_at_most m e (n ∷ ns) h = by (bytes_eq n m) refl (one_at_most m e ns h.1)
  where
    by : (b : Bool) → bytes_eq n m ≡ b → sum_by (only m e) ns ≤ e → sum_by (only m e) (n ∷ ns) ≤ e
    by true is rest =
        let first : only m e n ≡ e = ap (λ b. if b then e else 0) is in
        let others = none_of m e ns (sym (ap (λ k. list_any (bytes_eq k) ns) ((bytes_eq-Decides n m).0 is)) ∙ h.0) in
        let whole = sum_by-cons (only m e) n ns in
        omega (arith, first, others, whole)
    by false is rest =
        let first : only m e n ≡ 0 = ap (λ b. if b then e else 0) is in
        let whole = sum_by-cons (only m e) n ns in
        omega (arith, first, rest, whole)

sum_least : {A : Type 0} (f g h : A → ℕ) → ((x : A) → f x ≤ g x + h x) → (xs : List A) → sum_by f xs ≤ sum_by g xs + sum_by h xs
sum_least f g h less [] = omega arith
sum_least f g h less (x ∷ xs) =
    let one = less x in
    let rest = sum_least f g h less xs in
    let a = sum_by-cons f x xs in
    let b = sum_by-cons g x xs in
    let c = sum_by-cons h x xs in
    omega (arith, one, rest, a, b, c)

no_sum : {A : Type 0} (f : A → ℕ) → ((x : A) → f x ≡ 0) → (xs : List A) → sum_by f xs ≡ 0
no_sum f none [] = refl
no_sum f none (x ∷ xs) =
    let one = none x in let rest = no_sum f none xs in let a = sum_by-cons f x xs in omega (arith, one, rest, a)

-- ---- the elements of an array, if the name is one's

abbrev pub elements_if : Option (List Dimension) → ℕ
elements_if None = 0
elements_if (Some ds) = size ds

module _ (types : Types) (known : Known) (names : List (List ℕ)) (distinct : AreDistinct names) where
  one_declared : (d : DeclaratorTree) (ds : List DeclaratorTree) → lacks_bound types known d ≡ false → (n : List ℕ) → elements_if (dimensions_in types known (d ∷ ds) n) ≤ only d.name (elements_of types known d) n + elements_if (dimensions_in types known ds n)
  one_declared d ds has n = by (bytes_eq n d.name) (nat_lt 0 (length d.bounds)) (lacks_bound types known d) has
    where
      by : (a b c : Bool) → c ≡ false → elements_if (if a && b then Some (map (dimension_of types known) d.bounds) else dimensions_in types known ds n)
          ≤ (if a then (if b && not c then size (dimensions_by types known d) else 0) else 0) + elements_if (dimensions_in types known ds n)
      by true true false f = omega arith
      by true true true f = absurd (true≢false f)
      by true false c f = omega arith
      by false b c f = omega arith

  all_declared : (ds : List DeclaratorTree) → AllByRecursion (λ d. lacks_bound types known d ≡ false) ds → sum_by (λ n. elements_if (dimensions_in types known ds n)) names ≤ sum_by (elements_of types known) ds
  all_declared [] has = let none = no_sum (λ n. elements_if (dimensions_in types known [] n)) (λ n. refl) names in omega (arith, none)
  all_declared (d ∷ ds) has =
      let rest = all_declared ds has.1 in
      let one = one_at_most d.name (elements_of types known d) names distinct in
      let both = sum_least (λ n. elements_if (dimensions_in types known (d ∷ ds) n)) (only d.name (elements_of types known d)) (λ n. elements_if (dimensions_in types known ds n)) (one_declared d ds has.0) names in
      let whole = sum_by-cons (elements_of types known) d ds in
      omega (arith, rest, one, both, whole)

either_least : (o p : Option (List Dimension)) → elements_if (or_dimensions o p) ≤ elements_if o + elements_if p
either_least None p = omega arith
either_least (Some ds) p = omega arith

module _ (r : Symbols) (all : List ItemTree) (names : List (List ℕ)) (distinct : AreDistinct names) where
  all_elements : (before xs : List ItemTree) → EachBehind (IsLawful r all) before xs → AreTyped r.names.types (known_behind_all r before) → sum_by (λ n. elements_if (arrays_from r.names.types (known_behind_all r before) xs n)) names ≤ elements_in r before xs
  unfolding arrays_from elements_in
  all_elements before [] lawful typed =
      let none = no_sum (λ n. elements_if (arrays_from r.names.types (known_behind_all r before) [] n)) (λ n. refl) names in omega (arith, none)
  all_elements before (x ∷ xs) lawful typed =
      let types = r.names.types in
      let known = known_behind_all r before in
      let here = all_declared types known names distinct (declarators_in x.shape) (statement_bounds r all before x lawful.0 typed) in
      let rest = subst (λ k. sum_by (λ n. elements_if (arrays_from types k xs n)) names ≤ elements_in r (before ++ x ∷ []) xs) (known_more r before x) (all_elements (before ++ x ∷ []) xs lawful.1 (more_typed r all before x lawful.0 typed)) in
      let both = sum_least (λ n. elements_if (or_dimensions (dimensions_in types known (declarators_in x.shape) n) (arrays_from types (known_behind types known x.shape) xs n))) (λ n. elements_if (dimensions_in types known (declarators_in x.shape) n)) (λ n. elements_if (arrays_from types (known_behind types known x.shape) xs n))
      (λ n. either_least (dimensions_in types known (declarators_in x.shape) n) (arrays_from types (known_behind types known x.shape) xs n)) names in
      omega (arith, here, rest, both)

-- ---- 16,777,216 at most

module _ (types : Types) (known : Known) where
  few_here : (so_far : ℕ) (ds : List DeclaratorTree) → AllByRecursion (λ d. lacks_bound types known d ≡ false) ds → have_too_large types known so_far ds ≡ false → so_far ≤ 16777216 → so_far + sum_by (elements_of types known) ds ≤ 16777216
  few_here so_far [] has large few = omega (arith, few)
  few_here so_far (d ∷ ds) has large few =
      let p = or_parts (is_too_large types known so_far d) (have_too_large types known (so_far + elements_of types known d) ds) large in
      let rest = few_here (so_far + elements_of types known d) ds has.1 p.1 (one p.0) in
      let whole = sum_by-cons (elements_of types known) d ds in
      omega (arith, rest, whole)
    where
      by : (a b c s : Bool) → c ≡ false → (a || (not c && (s || (b && nat_lt 16777216 (so_far + (if b && not c then size (dimensions_by types known d) else 0)))))) ≡ false → so_far + (if b && not c then size (dimensions_by types known d) else 0) ≤ 16777216
      by true b c s f h = absurd (true≢false h)
      by false true false true f h = absurd (true≢false h)
      by false true false false f h = ltb-false 16777216 (so_far + size (dimensions_by types known d)) h
      by false false false s f h = omega (arith, few)
      by false b true s f h = absurd (true≢false f)

      one : is_too_large types known so_far d ≡ false → so_far + elements_of types known d ≤ 16777216
      one h = by (nat_lt 7 (length d.bounds)) (nat_lt 0 (length d.bounds)) (lacks_bound types known d) (list_any is_reversed (dimensions_by types known d)) has.0 h

elements_last : (r : Symbols) (before xs : List ItemTree) (x : ItemTree) → elements_in r before (xs ++ x ∷ []) ≡ elements_in r before xs + sum_by (elements_of r.names.types (known_behind_all r (before ++ xs))) (declarators_in x.shape)
unfolding elements_in
elements_last r before [] x =
    let here = ap (λ b. sum_by (elements_of r.names.types (known_behind_all r b)) (declarators_in x.shape)) (append-nil before) in omega (arith, here)
elements_last r before (y ∷ ys) x =
    let rest = elements_last r (before ++ y ∷ []) ys x in
    let there = ap (λ b. sum_by (elements_of r.names.types (known_behind_all r b)) (declarators_in x.shape)) (append_assoc before (y ∷ []) ys) in
    omega (arith, rest, there)

few_elements : (r : Symbols) (all before xs : List ItemTree) → EachBehind (IsLawful r all) before xs → AreTyped r.names.types (known_behind_all r before) → elements_in r [] before ≤ 16777216 → elements_in r [] (before ++ xs) ≤ 16777216
few_elements r all before [] lawful typed few = subst (λ b. elements_in r [] b ≤ 16777216) (sym (append-nil before)) few
few_elements r all before (x ∷ xs) lawful typed few =
    let here = few_here r.names.types (known_behind_all r before) (elements_in r [] before) (declarators_in x.shape) (statement_bounds r all before x lawful.0 typed) lawful.0.sized few in
    let last = elements_last r [] before x in
    subst (λ b. elements_in r [] b ≤ 16777216) (append_assoc before (x ∷ []) xs)
    (few_elements r all (before ++ x ∷ []) xs lawful.1 (more_typed r all before x lawful.0 typed) (omega (arith, here, last)))

no_elements : (r : Symbols) → elements_in r [] [] ≤ 16777216
unfolding elements_in
no_elements r = omega arith

pub few_in_all : (all : List ItemTree) → EachBehind (IsLawful (symbols_of all) all) [] all → (names : List (List ℕ)) → AreDistinct names → sum_by (λ n. elements_if (arrays_of all n)) names ≤ 16777216
few_in_all all lawful names distinct =
    let r = symbols_of all in
    let most = few_elements r all [] all lawful (nothing_typed (types_of all)) (no_elements r) in
    let sum = all_elements r all names distinct [] all lawful (nothing_typed (types_of all)) in
    omega (arith, most, sum)
