-- Names that statements don't name are no arrays and no constants, and are in no type statement.
use Rattle.std.proofs.Common.{◌≡◌, ℕ, Bool, true, false, ◌||◌, ◌&&◌, List, [], ◌∷◌, ◌++◌, map, cond, Option, Some, None, refl, sym, ap, ◌∙◌}
use Rattle.std.specs.Prelude.{if◌then◌else◌, flat_map, is_some, nat_lt, length}
use Rattle.std.specs.List.{filter, fold, list_any}
use Rattle.std.specs.Option.{option_or}
use Rattle.std.specs.Str.{bytes_eq}
use Rattle.std.proofs.lemmas.Bool.{true≢false}
use Rattle.std.proofs.lemmas.List.Folds.{list_any-append}
use Rattle.std.proofs.lemmas.Slice.Eq.{bytes_eq-Decides}
use Rattle.meaning.specs.declared.syntax.DataType.{DataType}
use Rattle.meaning.specs.declared.syntax.DataType.TheVariants as kinds
use Rattle.meaning.specs.Arrays.{Dimension}
use Rattle.meaning.specs.Scopes.{arrays_from, arrays_of, constant_value, constants_in, declarators_in, dimension_of, dimensions_in as bounds_in, known_behind, known_of, nothing_known, or_dimensions, with_constant}
use Rattle.meaning.specs.Syntax.{BoundsTree, ConstantTree, DeclaratorTree, ItemTree, ShapeTree, typing, logical_typing}
use Rattle.meaning.specs.Types.{Types, types_of, declared_by, typed_as, typed_in}
use Rattle.meaning.specs.Uses.{Symbols, is_array, is_other, symbols_of, uses_at}
use Rattle.meaning.specs.Values.{Known, dimensions_in}
use Rattle.symbols.specs.TypedNames.{typed_names}
use Rattle.symbols.proofs.Firsts.{declared_append}
use Rattle.name_maps.proofs.NameSets.{any_with_names}
use Rattle.checker.specs.Entries.{names_given}
use Rattle.storage.specs.Kept.{array_of}
use Rattle.storage.specs.Numbered.{appearing_by, is_variable, names_at, names_from, variables_of, with_those}

or_parts : (a b : Bool) → (a || b) ≡ false → (a ≡ false) × (b ≡ false)
or_parts true b h = absurd (true≢false h)
or_parts false b h = (refl, h)

abbrev IsAbsent : List ℕ → List (List ℕ) → Type 0
IsAbsent n names = list_any (bytes_eq n) names ≡ false

absent_parts : (n : List ℕ) (a b : List (List ℕ)) → IsAbsent n (a ++ b) → (IsAbsent n a) × (IsAbsent n b)
absent_parts n a b h =
    or_parts (list_any (bytes_eq n) a) (list_any (bytes_eq n) b) (sym (list_any-append (bytes_eq n) a b) ∙ h)

-- ---- arrays

module _ (types : Types) where
  not_bounded : (known : Known) (ds : List DeclaratorTree) (n : List ℕ) → IsAbsent n (map (λ d. d.name) ds) → bounds_in types known ds n ≡ None
  not_bounded known [] n h = refl
  not_bounded known (d ∷ ds) n h =
      let p = or_parts (bytes_eq n d.name) (list_any (bytes_eq n) (map (λ e. e.name) ds)) h in
      ap (λ b. if b && nat_lt 0 (length d.bounds) then Some (map (dimension_of types known) d.bounds) else bounds_in types known ds n) p.0
      ∙ not_bounded known ds n p.1

  not_array : (r : Symbols) (known : Known) (before xs : List ItemTree) (n : List ℕ) → IsAbsent n (names_from r before xs) → arrays_from types known xs n ≡ None
  unfolding names_from arrays_from
  not_array r known before [] n h = refl
  not_array r known before (x ∷ xs) n h =
      let p = absent_parts n (names_at r before x) (names_from r (before ++ x ∷ []) xs) h in
      let q = absent_parts n (map (λ d. d.name) (declarators_in x.shape)) (map (λ u. u.name) (uses_at r before x)) p.0 in
      ap (λ o. or_dimensions o (arrays_from types (known_behind types known x.shape) xs n)) (not_bounded known (declarators_in x.shape) n q.0)
      ∙ not_array r (known_behind types known x.shape) (before ++ x ∷ []) xs n p.1

  some_or : (c : Bool) (d : Dimension) (ds : List Dimension) (o : Option (List Dimension)) → array_of (dimensions_in o) ≡ o → array_of (dimensions_in (if c then Some (d ∷ ds) else o)) ≡ (if c then Some (d ∷ ds) else o)
  some_or true d ds o h = refl
  some_or false d ds o h = h

  -- an array has a dimension
  bounded_one : (known : Known) (ds : List DeclaratorTree) (n : List ℕ) → array_of (dimensions_in (bounds_in types known ds n)) ≡ bounds_in types known ds n
  bounded_one known [] n = refl
  bounded_one known (d ∷ ds) n = by_test (bytes_eq n d.name) d.bounds (bounded_one known ds n)
    where
      by_test : (b : Bool) (bs : List BoundsTree) → array_of (dimensions_in (bounds_in types known ds n)) ≡ bounds_in types known ds n → array_of (dimensions_in (if b && nat_lt 0 (length bs) then Some (map (dimension_of types known) bs) else bounds_in types known ds n)) ≡ (if b && nat_lt 0 (length bs) then Some (map (dimension_of types known) bs) else bounds_in types known ds n)
      by_test false bs h = h
      by_test true [] h = h
      by_test true (x ∷ bs) h =
          some_or (nat_lt 0 (length (x ∷ bs))) (dimension_of types known x) (map (dimension_of types known) bs) (bounds_in types known ds n) h

  some_bounds : (known : Known) (xs : List ItemTree) (n : List ℕ) → array_of (dimensions_in (arrays_from types known xs n)) ≡ arrays_from types known xs n
  unfolding arrays_from
  some_bounds known [] n = refl
  some_bounds known (x ∷ xs) n =
      by_first (bounds_in types known (declarators_in x.shape) n) (bounded_one known (declarators_in x.shape) n) (arrays_from types (known_behind types known x.shape) xs n) (some_bounds (known_behind types known x.shape) xs n)
    where
      by_first : (o : Option (List Dimension)) → array_of (dimensions_in o) ≡ o → (p : Option (List Dimension)) → array_of (dimensions_in p) ≡ p → array_of (dimensions_in (or_dimensions o p)) ≡ or_dimensions o p
      by_first None h p k = k
      by_first (Some ds) h p k = h

pub bounded : (all : List ItemTree) (n : List ℕ) → array_of (dimensions_in (arrays_of all n)) ≡ arrays_of all n
bounded all n = some_bounds (types_of all) nothing_known all n

-- a name that passes a test is among those that pass it
kept_absent : (test : List ℕ → Bool) (n : List ℕ) (ns : List (List ℕ)) → test n ≡ true → IsAbsent n (filter test ns) → IsAbsent n ns
kept_absent test n [] passes h = refl
kept_absent test n (y ∷ ys) passes h = by_test (bytes_eq n y) refl (kept_absent test n ys passes)
  where
    no_first : (c : Bool) → list_any (bytes_eq n) (cond c (y ∷ filter test ys) (filter test ys)) ≡ false → list_any (bytes_eq n) (filter test ys) ≡ false
    no_first true k = (or_parts (bytes_eq n y) (list_any (bytes_eq n) (filter test ys)) k).1
    no_first false k = k

    is_first : (c : Bool) → c ≡ true → bytes_eq n y ≡ true → list_any (bytes_eq n) (cond c (y ∷ filter test ys) (filter test ys)) ≡ false → ⊥
    is_first true told same k = true≢false (sym same ∙ (or_parts (bytes_eq n y) (list_any (bytes_eq n) (filter test ys)) k).0)
    is_first false told same k = true≢false (sym told)

    by_test : (b : Bool) → bytes_eq n y ≡ b → (IsAbsent n (filter test ys) → IsAbsent n ys) → (bytes_eq n y || list_any (bytes_eq n) ys) ≡ false
    by_test true same rest =
        absurd (is_first (test y) (ap test (sym ((bytes_eq-Decides n y).0 same)) ∙ passes) same h)
    by_test false other rest = ap (λ b. b || list_any (bytes_eq n) ys) other ∙ rest (no_first (test y) h)

pub no_array : (all : List ItemTree) (n : List ℕ) → IsAbsent n (variables_of all) → arrays_of all n ≡ None
no_array all n h = by (arrays_of all n) refl
  where
    by : (o : Option (List Dimension)) → arrays_of all n ≡ o → arrays_of all n ≡ None
    by None is = is
    by (Some ds) is =
        let r = symbols_of all in
        let named = names_from r [] all in
        let names = appearing_by r all in
        let front = with_those (is_other r) [] names in
        let arrays = filter (is_array r) names in
        let array : is_array r n ≡ true = ap is_some is in
        let not_last = (or_parts (list_any (bytes_eq n) front) (list_any (bytes_eq n) arrays) (sym (any_with_names front arrays n) ∙ h)).1 in
        let not_there = kept_absent (is_array r) n names array not_last in
        let filtered = sym (any_with_names [] (filter (is_variable r) named) n) ∙ not_there in
        not_array (types_of all) r nothing_known [] all n (kept_absent (is_variable r) n named (ap (λ b. b || is_other r n) array) filtered)

-- ---- constants

module _ (types : Types) where
  not_constant : (known : Known) (cs : List ConstantTree) (n : List ℕ) → IsAbsent n (map (λ c. c.name) cs) → fold (with_constant types) known cs n ≡ known n
  not_constant known [] n h = refl
  not_constant known (c ∷ cs) n h =
      let p = or_parts (bytes_eq n c.name) (list_any (bytes_eq n) (map (λ d. d.name) cs)) h in
      not_constant (with_constant types known c) cs n p.1 ∙ ap (λ b. if b then constant_value types known c.value else known n) p.0

  not_known : (known : Known) (xs : List ItemTree) (n : List ℕ) → IsAbsent n (flat_map (λ x. names_given x.shape) xs) → fold (λ k x. known_behind types k x.shape) known xs n ≡ known n
  not_known known [] n h = refl
  not_known known (x ∷ xs) n h =
      let p = absent_parts n (names_given x.shape) (flat_map (λ y. names_given y.shape) xs) h in
      let q = absent_parts n (map (λ d. d.name) (declarators_in x.shape)) (map (λ c. c.name) (constants_in x.shape)) p.0 in
      not_known (known_behind types known x.shape) xs n p.1 ∙ not_constant known (constants_in x.shape) n q.1

  pub unknown : (xs : List ItemTree) (n : List ℕ) → IsAbsent n (flat_map (λ x. names_given x.shape) xs) → known_of types xs n ≡ None
  unknown xs n h = not_known nothing_known xs n h

-- ---- type statements

untyped_names : (k : DataType) (ds : List DeclaratorTree) (n : List ℕ) → IsAbsent n (map (λ d. d.name) ds) → declared_by (typed_as k ds) n ≡ None
untyped_names k [] n h = refl
untyped_names k (d ∷ ds) n h =
    let p = or_parts (bytes_eq n d.name) (list_any (bytes_eq n) (map (λ e. e.name) ds)) h in
    ap (λ b. if b then Some k else declared_by (typed_as k ds) n) p.0 ∙ untyped_names k ds n p.1

untyped_in : (s : ShapeTree) (n : List ℕ) → IsAbsent n (map (λ d. d.name) (declarators_in s)) → declared_by (typed_in s) n ≡ None
untyped_in (typing ds) n h = untyped_names kinds.Integer ds n h
untyped_in (logical_typing ds) n h = untyped_names kinds.Logical ds n h
untyped_in s n h = refl

pub untyped : (xs : List ItemTree) (n : List ℕ) → IsAbsent n (flat_map (λ x. names_given x.shape) xs) → declared_by (typed_names xs) n ≡ None
untyped [] n h = refl
untyped (x ∷ xs) n h =
    let p = absent_parts n (names_given x.shape) (flat_map (λ y. names_given y.shape) xs) h in
    let q = absent_parts n (map (λ d. d.name) (declarators_in x.shape)) (map (λ c. c.name) (constants_in x.shape)) p.0 in
    declared_append (typed_in x.shape) (typed_names xs) n ∙ ap (λ o. option_or o (declared_by (typed_names xs) n)) (untyped_in x.shape n q.0)
    ∙ untyped xs n p.1
