-- Variables and arrays have cells.
use Rattle.std.proofs.Common.{◌≡◌, ◌≤◌, ℕ, ◌+◌, ◌*◌, ℤ, pos, ◌-ℤ◌, Bool, true, false, cond, ◌||◌, ◌&&◌, List, [], ◌∷◌, map, Option, Some, None, refl, sym, ap, ap₂, ◌∙◌, arith}
use Rattle.std.specs.Prelude.{if◌then◌else◌, is_some, not, option_map}
use Rattle.std.specs.List.{filter, list_any}
use Rattle.std.specs.Str.{bytes_eq}
use Rattle.std.proofs.lemmas.Bool.{lt-ltb, true≢false}
use Rattle.std.proofs.lemmas.Int.{ints}
use Rattle.std.proofs.lemmas.Slice.Eq.{bytes_eq-Decides}
use Rattle.meaning.specs.Arrays.{Dimension, above, cell_of, combined, extent, place, size, within}
use Rattle.meaning.specs.Scopes.{arrays_of}
use Rattle.meaning.specs.Syntax.{ItemTree}
use Rattle.meaning.specs.Uses.{is_array, is_constant, is_other, symbols_of}
use Rattle.meaning.specs.Values.{Arrays, dimensions_in}
use Rattle.name_maps.proofs.NameSets.{any_with_names}
use Rattle.storage.specs.Numbered.{appearing_by, is_variable, named, named_of, names_from, variables_of, with_those}
use Rattle.rule_laws.specs.Lawful.{EachBehind, IsLawful}
use Rattle.rule_laws.specs.References.{HasCell, HasElement}
use Rattle.rule_laws.proofs.Sizes.{HaveElements, arrays_sized}
use Rattle.rule_laws.proofs.Tests.{and_true, not_false, or_true}

-- ---- the first element

abbrev firsts : List Dimension → List ℤ
firsts ds = map (λ d. d.lower) ds

above_first : (d : Dimension) → 1 ≤ extent d → above d d.lower ≡ Some 0
above_first d h = ap (within (extent d)) zero ∙ ap (λ b. if b then Some 0 else None) (lt-ltb 0 (extent d) h)
  where
    zero : d.lower -ℤ d.lower ≡ pos 0
    zero = omega (arith, ints)

first_place : (ds : List Dimension) → HaveElements ds → place ds (firsts ds) ≡ Some 0
first_place [] h = refl
first_place (d ∷ ds) h = ap₂ (combined (extent d)) (above_first d h.0) (first_place ds h.1) ∙ ap Some (none (extent d))
  where
    none : (n : ℕ) → 0 + n * 0 ≡ 0
    none n = omega arith

-- ---- names that appear

-- a name that passes a test is among those that do
filtered : (test : List ℕ → Bool) (n : List ℕ) (ns : List (List ℕ)) → test n ≡ true → list_any (bytes_eq n) ns ≡ true → list_any (bytes_eq n) (filter test ns) ≡ true
filtered test n [] passes there = there
filtered test n (y ∷ ys) passes there = by (bytes_eq n y) refl there (filtered test n ys passes)
  where
    first : (c : Bool) → c ≡ true → bytes_eq n y ≡ true → list_any (bytes_eq n) (cond c (y ∷ filter test ys) (filter test ys)) ≡ true
    first true told same = ap (λ b. b || list_any (bytes_eq n) (filter test ys)) same
    first false told same = absurd (true≢false (sym told))

    later : (c : Bool) → list_any (bytes_eq n) (filter test ys) ≡ true → list_any (bytes_eq n) (cond c (y ∷ filter test ys) (filter test ys)) ≡ true
    later true h = ap (λ b. bytes_eq n y || b) h ∙ or_true (bytes_eq n y)
    later false h = h

    by : (b : Bool) → bytes_eq n y ≡ b → (b || list_any (bytes_eq n) ys) ≡ true → (list_any (bytes_eq n) ys ≡ true → list_any (bytes_eq n) (filter test ys) ≡ true) → list_any (bytes_eq n) (filter test (y ∷ ys)) ≡ true
    by true same h rest = first (test y) (ap test (sym ((bytes_eq-Decides n y).0 same)) ∙ passes) same
    by false other h rest = later (test y) (rest h)

kept : (test : List ℕ → Bool) (names more : List (List ℕ)) (n : List ℕ) → test n ≡ true → list_any (bytes_eq n) more ≡ true → list_any (bytes_eq n) (with_those test names more) ≡ true
kept test names more n passes there =
    any_with_names names (filter test more) n ∙ ap (λ b. list_any (bytes_eq n) names || b) (filtered test n more passes there)
    ∙ or_true (list_any (bytes_eq n) names)

pub array_appears : (all : List ItemTree) (n : List ℕ) → is_array (symbols_of all) n ≡ true → list_any (bytes_eq n) (names_from (symbols_of all) [] all) ≡ true → list_any (bytes_eq n) (variables_of all) ≡ true
array_appears all n array there =
    let r = symbols_of all in
    kept (is_array r) (with_those (is_other r) [] (appearing_by r all)) (appearing_by r all) n array
    (kept (is_variable r) [] (names_from r [] all) n (ap (λ b. b || is_other r n) array) there)

pub variable_appears : (all : List ItemTree) (n : List ℕ) → is_other (symbols_of all) n ≡ true → list_any (bytes_eq n) (names_from (symbols_of all) [] all) ≡ true → list_any (bytes_eq n) (variables_of all) ≡ true
variable_appears all n other there =
    let r = symbols_of all in
    let front = with_those (is_other r) [] (appearing_by r all) in
    any_with_names front (filter (is_array r) (appearing_by r all)) n
    ∙ ap (λ b. b || list_any (bytes_eq n) (filter (is_array r) (appearing_by r all)))
    (kept (is_other r) [] (appearing_by r all) n other
    (kept (is_variable r) [] (names_from r [] all) n (ap (λ b. is_array r n || b) other ∙ or_true (is_array r n)) there))

-- ---- cells

module _ (arrays : Arrays) (n : List ℕ) (ss : List ℤ) (i : ℕ) (is : place (dimensions_in (arrays n)) ss ≡ Some i) where
  cell_found : (names : List (List ℕ)) → list_any (bytes_eq n) names ≡ true → HasCell (cell_of (named arrays names)) n ss
  cell_found [] there = absurd (true≢false (sym there))
  cell_found (x ∷ xs) there = by (bytes_eq n x) refl there (cell_found xs)
    where
      by : (b : Bool) → bytes_eq n x ≡ b → (b || list_any (bytes_eq n) xs) ≡ true → (list_any (bytes_eq n) xs ≡ true → HasCell (cell_of (named arrays xs)) n ss) → HasCell (cell_of (named arrays (x ∷ xs))) n ss
      by true same h rest =
          record {
            cell = i;
            found = ap (λ b. if b then place (dimensions_in (arrays x)) ss else option_map (λ c. size (dimensions_in (arrays x)) + c) (cell_of (named arrays xs) n ss)) same
                ∙ ap (λ y. place (dimensions_in (arrays y)) ss) (sym ((bytes_eq-Decides n x).0 same)) ∙ is;
          }
      by false other h rest =
          let later = rest h in
          record {
            cell = size (dimensions_in (arrays x)) + later.cell;
            found = ap (λ b. if b then place (dimensions_in (arrays x)) ss else option_map (λ c. size (dimensions_in (arrays x)) + c) (cell_of (named arrays xs) n ss)) other
                ∙ ap (option_map (λ c. size (dimensions_in (arrays x)) + c)) later.found;
          }

-- an array has elements
pub array_cell : (all : List ItemTree) → EachBehind (IsLawful (symbols_of all) all) [] all → (n : List ℕ) (dims : List Dimension) → arrays_of all n ≡ Some dims → HasElement (cell_of (named_of all)) n
array_cell all lawful n dims is =
    let sized = arrays_sized all lawful n dims is in
    record {
      subscripts = firsts dims;
      kept = cell_found (arrays_of all) n (firsts dims) 0 (ap (λ o. place (dimensions_in o) (firsts dims)) is ∙ first_place dims sized.dimensions.values) (variables_of all)
          (array_appears all n (ap is_some is) sized.named);
    }

-- a name that is used as a variable is one's
pub variable_cell : (all : List ItemTree) (n : List ℕ) → is_other (symbols_of all) n ≡ true → list_any (bytes_eq n) (names_from (symbols_of all) [] all) ≡ true → HasCell (cell_of (named_of all)) n []
variable_cell all n other there =
    cell_found (arrays_of all) n [] 0 (no_bounds (arrays_of all n) (plain (is_constant (symbols_of all) n) (is_array (symbols_of all) n) _ other)) (variables_of all) (variable_appears all n other there)
  where
    plain : (a b c : Bool) → (not a && (not b && c)) ≡ true → b ≡ false
    plain a b c h = not_false b (and_true (not b) c (and_true (not a) (not b && c) h).1).0

    no_bounds : (o : Option (List Dimension)) → is_some o ≡ false → place (dimensions_in o) [] ≡ Some 0
    no_bounds None h = refl
    no_bounds (Some ds) h = absurd (true≢false h)
