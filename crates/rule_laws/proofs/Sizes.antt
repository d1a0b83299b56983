-- The arrays of a program unit that keeps the rules have elements.
use Rattle.std.proofs.Common.{◌≡◌, ◌≤◌, ℕ, suc, ◌+◌, ℤ, pos, negsuc, ◌+ℤ◌, ◌-ℤ◌, Bool, true, false, ◌&&◌, ◌||◌, List, [], ◌∷◌, ◌++◌, length, Option, Some, None, refl, sym, ap, subst, ◌∙◌, arith}
use Rattle.std.specs.Prelude.{flat_map, if◌then◌else◌, int_lt, is_none, map, nat_lt, not}
use Rattle.std.specs.List.{AllByRecursion, list_any}
use Rattle.std.specs.Str.{bytes_eq}
use Rattle.std.proofs.lemmas.Bool.{ltb-false, true≢false}
use Rattle.std.proofs.lemmas.Int.{ints}
use Rattle.std.proofs.lemmas.List.Folds.{list_any-append}
use Rattle.std.proofs.lemmas.List.Sums.{fold-append}
use Rattle.meaning.specs.declared.ending.Value.{Value}
use Rattle.meaning.specs.declared.ending.Value.TheVariants as values
use Rattle.meaning.specs.Arrays.{Dimension, extent, size}
use Rattle.meaning.specs.Characters.{at_least_zero}
use Rattle.meaning.specs.Initial.{value_type}
use Rattle.meaning.specs.NumberRules.{dimensions_by, elements_of, elements_in, has_bad_bound, has_too_great, have_too_large, is_bad_constant, is_integer, is_no_constant, is_no_integer, is_reversed, is_too_large, known_behind_all, lacks_bound}
use Rattle.meaning.specs.Scopes.{arrays_from, constant_value, constants_in, declarators_in, dimension_of, dimensions_in, known_behind, arrays_of, nothing_known, or_dimensions}
use Rattle.meaning.specs.Syntax.{BoundsTree, DeclaratorTree, ExprTree, ItemTree, ShapeTree, dimensioning, logical_typing, typing}
use Rattle.meaning.specs.Types.{Types, types_of}
use Rattle.meaning.specs.Typing.{Names, clash, dummies_if, expected, expected_in, in_bounds, integer_type, is_ill, is_mistyped, option_list, type_of, within}
use Rattle.meaning.specs.Uses.{Symbols, is_defining, symbols_of}
use Rattle.meaning.specs.Values.{Known}
use Rattle.storage.specs.Numbered.{names_at, names_from}
use Rattle.rule_laws.specs.Lawful.{EachBehind, IsLawful}
use Rattle.rule_laws.specs.Sized.{AreDimensions}
use Rattle.rule_laws.proofs.Constants.{AreTyped, constant_typed, more_typed}
use Rattle.rule_laws.proofs.Tests.{all_parts, none_any, or_parts, or_true}

pub mapped_length : {A B : Type 0} (f : A → B) (xs : List A) → length (map f xs) ≡ length xs
mapped_length f [] = refl
mapped_length f (x ∷ xs) = ap suc (mapped_length f xs)

-- ---- one dimension

ordered : (d : Dimension) → int_lt d.upper d.lower ≡ false → 1 ≤ extent d
ordered d h = by (d.upper -ℤ d.lower +ℤ pos 1) refl
  where
    by : (z : ℤ) → d.upper -ℤ d.lower +ℤ pos 1 ≡ z → 1 ≤ at_least_zero z
    by (pos n) is = omega (arith, ints, is, h)
    by (negsuc n) is = absurd (omega (arith, ints, is, h))

abbrev pub HaveElements : List Dimension → Type 0
HaveElements ds = AllByRecursion (λ d. 1 ≤ extent d) ds

all_ordered : (ds : List Dimension) → list_any is_reversed ds ≡ false → HaveElements ds
all_ordered [] h = tt
all_ordered (d ∷ ds) h = let p = or_parts (is_reversed d) (list_any is_reversed ds) h in (ordered d p.0, all_ordered ds p.1)

-- dimensions, if there are any
pub record AreBounded (ds : List Dimension) : Type 0 where
  pub few : length ds ≤ 7
  pub values : HaveElements ds
  pub elements : size ds ≤ 16777216

-- ---- bounds are INTEGER constants

int_value : (v : Value) → clash integer_type (value_type v) ≡ false → is_integer (Some v) ≡ true
int_value (values.Int z) h = refl
int_value (values.Bool b) h = absurd (true≢false h)

module _ (ns : Names) (known : Known) (typed : AreTyped ns.types known) where
  integer_bound : (e : ExprTree) → is_mistyped ns (expected integer_type e) ≡ false → is_no_constant ns.types known e ≡ false → is_no_integer ns.types known e ≡ false
  integer_bound e agrees is = by (constant_value ns.types known e) refl
    where
      none_false : is_none (constant_value ns.types known e) ≡ false
      none_false = (or_parts _ (is_none (constant_value ns.types known e)) is).1

      both : (a b c : Bool) → a ≡ false → b ≡ c → c ≡ true → (a || not b) ≡ false
      both a b c f g h = grind (arith, f, g, h)

      by : (o : Option Value) → constant_value ns.types known e ≡ o → is_no_integer ns.types known e ≡ false
      by None none = absurd (true≢false (sym (ap is_none none) ∙ none_false))
      by (Some v) some =
          let no_clash = (or_parts (clash integer_type (type_of ns e)) (is_ill ns e) agrees).0 in
          let int = int_value v (subst (λ k. clash integer_type k ≡ false) (constant_typed ns known typed e is v some) no_clash) in
          both (is_no_constant ns.types known e) (is_integer (constant_value ns.types known e)) (is_integer (Some v)) is (ap is_integer some) int

  integer_each : (es : List ExprTree) → AllByRecursion (λ x. is_mistyped ns x ≡ false) (map (expected integer_type) es) → AllByRecursion (λ e. is_no_constant ns.types known e ≡ false) (map (λ x. x.expr) (map (expected integer_type) es))
      → list_any (is_no_integer ns.types known) (map (λ x. x.expr) (map (expected integer_type) es)) ≡ false
  integer_each [] agrees are = refl
  integer_each (e ∷ es) agrees are =
      ap (λ b. b || list_any (is_no_integer ns.types known) (map (λ x. x.expr) (map (expected integer_type) es))) (integer_bound e agrees.0 are.0)
      ∙ integer_each es agrees.1 are.1

  integer_bounds : (bs : List BoundsTree) → AllByRecursion (λ x. is_mistyped ns x ≡ false) (flat_map in_bounds bs) → AllByRecursion (λ e. is_no_constant ns.types known e ≡ false) (flat_map (λ b. map (λ x. x.expr) (in_bounds b)) bs)
      → list_any (is_no_integer ns.types known) (flat_map (λ b. map (λ x. x.expr) (in_bounds b)) bs) ≡ false
  integer_bounds [] agrees are = refl
  integer_bounds (b ∷ bs) agrees are =
      let p = all_parts (λ x. is_mistyped ns x ≡ false) (in_bounds b) (flat_map in_bounds bs) agrees in
      let q = all_parts (λ e. is_no_constant ns.types known e ≡ false) (map (λ x. x.expr) (in_bounds b)) _ are in
      list_any-append (is_no_integer ns.types known) (map (λ x. x.expr) (in_bounds b)) (flat_map (λ c. map (λ x. x.expr) (in_bounds c)) bs)
      ∙ ap (λ c. c || list_any (is_no_integer ns.types known) (flat_map (λ c. map (λ x. x.expr) (in_bounds c)) bs)) (integer_each (option_list b.lower ++ b.upper ∷ []) p.0 q.0)
      ∙ integer_bounds bs p.1 q.1

  abbrev HasBounds : DeclaratorTree → Type 0
  HasBounds d = lacks_bound ns.types known d ≡ false

  bounds_each : (ds : List DeclaratorTree) → AllByRecursion (λ x. is_mistyped ns x ≡ false) (flat_map (λ d. flat_map in_bounds d.bounds) ds) → AllByRecursion (λ e. is_no_constant ns.types known e ≡ false) (flat_map (λ d. flat_map (λ b. map (λ x. x.expr) (in_bounds b)) d.bounds) ds)
      → AllByRecursion HasBounds ds
  bounds_each [] agrees are = tt
  bounds_each (d ∷ ds) agrees are =
      let p = all_parts (λ x. is_mistyped ns x ≡ false) (flat_map in_bounds d.bounds) _ agrees in
      let q = all_parts (λ e. is_no_constant ns.types known e ≡ false) (flat_map (λ b. map (λ x. x.expr) (in_bounds b)) d.bounds) _ are in
      (integer_bounds d.bounds p.0 q.0, bounds_each ds p.1 q.1)

  sized : (before : ℕ) (d : DeclaratorTree) → HasBounds d → is_too_large ns.types known before d ≡ false → AreBounded (dimensions_by ns.types known d)
  sized before d has large =
      let dims = dimensions_by ns.types known d in
      let some = nat_lt 0 (length d.bounds) in
      let lacks = lacks_bound ns.types known d in
      let p = or_parts (nat_lt 7 (length d.bounds)) _ large in
      let q = or_parts (list_any is_reversed dims) _ (front lacks _ has p.1) in
      record {
        few = subst (λ m. m ≤ 7) (sym (mapped_length (dimension_of ns.types known) d.bounds)) (ltb-false 7 (length d.bounds) p.0);
        values = all_ordered dims q.0;
        elements = elements_here some lacks refl has q.1;
      }
    where
      front : (b c : Bool) → b ≡ false → (not b && c) ≡ false → c ≡ false
      front false c f h = h
      front true c f h = absurd (true≢false f)

      at_most : (n k : ℕ) → (true && nat_lt 16777216 (n + k)) ≡ false → k ≤ 16777216
      at_most n k h = let le = ltb-false 16777216 (n + k) h in omega (arith, le)

      none_small : (bs : List BoundsTree) → nat_lt 0 (length bs) ≡ false → size (map (dimension_of ns.types known) bs) ≤ 16777216
      none_small [] h = omega arith
      none_small (c ∷ bs) h = let le = ltb-false 0 (length (c ∷ bs)) h in absurd (omega (arith, le))

      elements_here : (some lacks : Bool) → nat_lt 0 (length d.bounds) ≡ some → lacks ≡ false → (some && nat_lt 16777216 (before + (if some && not lacks then size (dimensions_by ns.types known d) else 0))) ≡ false
          → size (dimensions_by ns.types known d) ≤ 16777216
      elements_here true false is f h = at_most before (size (dimensions_by ns.types known d)) h
      elements_here true true is f h = absurd (true≢false f)
      elements_here false lacks is f h = none_small d.bounds is

  abbrev HasElements : DeclaratorTree → Type 0
  HasElements d = AreBounded (dimensions_by ns.types known d)

  sized_each : (before : ℕ) (ds : List DeclaratorTree) → AllByRecursion HasBounds ds → have_too_large ns.types known before ds ≡ false → AllByRecursion HasElements ds
  sized_each before [] has large = tt
  sized_each before (d ∷ ds) has large =
      let p = or_parts (is_too_large ns.types known before d) (have_too_large ns.types known (before + elements_of ns.types known d) ds) large in
      (sized before d has.0 p.0, sized_each (before + elements_of ns.types known d) ds has.1 p.1)

  -- an array's dimensions
  pub bounded_elements : (ds : List DeclaratorTree) → AllByRecursion HasElements ds → (n : List ℕ) (dims : List Dimension) → dimensions_in ns.types known ds n ≡ Some dims → (1 ≤ length dims) × AreBounded dims × (list_any (bytes_eq n) (map (λ d. d.name) ds) ≡ true)
  bounded_elements [] have n dims is = absurd cc
  bounded_elements (d ∷ ds) have n dims is = by (bytes_eq n d.name) (nat_lt 0 (length d.bounds)) refl refl is (bounded_elements ds have.1 n dims)
    where
      some_long : (bs : List BoundsTree) → nat_lt 0 (length bs) ≡ true → 1 ≤ length (map (dimension_of ns.types known) bs)
      some_long [] h = absurd (true≢false (sym h))
      some_long (b ∷ bs) h = omega arith

      by : (a b : Bool) → bytes_eq n d.name ≡ a → nat_lt 0 (length d.bounds) ≡ b → (if a && b then Some (map (dimension_of ns.types known) d.bounds) else dimensions_in ns.types known ds n) ≡ Some dims
          → (dimensions_in ns.types known ds n ≡ Some dims → (1 ≤ length dims) × AreBounded dims × (list_any (bytes_eq n) (map (λ e. e.name) ds) ≡ true)) → (1 ≤ length dims) × AreBounded dims × (list_any (bytes_eq n) (map (λ e. e.name) (d ∷ ds)) ≡ true)
      by true true same some h rest =
          let are : map (dimension_of ns.types known) d.bounds ≡ dims = cc in
          (subst (λ xs. 1 ≤ length xs) are (some_long d.bounds some), subst AreBounded are have.0, ap (λ c. c || list_any (bytes_eq n) (map (λ e. e.name) ds)) same)
      by true false same some h rest = let r = rest h in (r.0, r.1, ap (λ c. bytes_eq n d.name || c) r.2 ∙ or_true (bytes_eq n d.name))
      by false b other some h rest = let r = rest h in (r.0, r.1, ap (λ c. bytes_eq n d.name || c) r.2 ∙ or_true (bytes_eq n d.name))

bounds_in : (ns : Names) (dummies : List ExprTree) (known : Known) → AreTyped ns.types known → (s : ShapeTree) → AllByRecursion (λ x. is_mistyped (within dummies ns) x ≡ false) (expected_in ns s) → has_bad_bound ns.types known (declarators_in s) ≡ false → AllByRecursion (λ d. lacks_bound ns.types known d ≡ false) (declarators_in s)
bounds_in ns dummies known typed (typing ds) agrees good =
    bounds_each (within dummies ns) known typed ds agrees (none_any (is_no_constant ns.types known) _ good)
bounds_in ns dummies known typed (logical_typing ds) agrees good =
    bounds_each (within dummies ns) known typed ds agrees (none_any (is_no_constant ns.types known) _ good)
bounds_in ns dummies known typed (dimensioning ds) agrees good =
    bounds_each (within dummies ns) known typed ds agrees (none_any (is_no_constant ns.types known) _ good)
bounds_in ns dummies known typed s agrees good = tt

-- ---- the arrays of statements

-- an array has dimensions, and some statement names it
pub record IsSized (r : Symbols) (before xs : List ItemTree) (n : List ℕ) (dims : List Dimension) : Type 0 where
  pub dimensions : AreDimensions dims
  pub named : list_any (bytes_eq n) (names_from r before xs) ≡ true

-- the bounds in a statement are INTEGER constants
pub statement_bounds : (r : Symbols) (all before : List ItemTree) (x : ItemTree) → IsLawful r all before x → AreTyped r.names.types (known_behind_all r before) → AllByRecursion (λ d. lacks_bound r.names.types (known_behind_all r before) d ≡ false) (declarators_in x.shape)
statement_bounds r all before x lawful typed =
    let dummies = dummies_if (is_defining r before x) x.shape in
    let known = known_behind_all r before in
    let agrees = none_any (is_mistyped (within dummies r.names)) (expected_in r.names x.shape) lawful.agreeing in
    let good = (or_parts (is_bad_constant r.names.types known (constants_in x.shape)) _ (or_parts (has_too_great r x.shape) _ lawful.constant).1).1 in
    bounds_in r.names dummies known typed x.shape agrees good

pub known_more : (r : Symbols) (before : List ItemTree) (x : ItemTree) → known_behind_all r (before ++ x ∷ []) ≡ known_behind r.names.types (known_behind_all r before) x.shape
known_more r before x = fold-append (λ k y. known_behind r.names.types k y.shape) nothing_known before (x ∷ [])

module _ (r : Symbols) (all : List ItemTree) (n : List ℕ) (dims : List Dimension) where
  array_here : (before xs : List ItemTree) (x : ItemTree) → IsLawful r all before x → AreTyped r.names.types (known_behind_all r before) → dimensions_in r.names.types (known_behind_all r before) (declarators_in x.shape) n ≡ Some dims → IsSized r before (x ∷ xs) n dims
  unfolding names_from
  array_here before xs x lawful typed is =
      let ns = within (dummies_if (is_defining r before x) x.shape) r.names in
      let known = known_behind_all r before in
      let have = statement_bounds r all before x lawful typed in
      let elements = sized_each ns known typed (elements_in r [] before) (declarators_in x.shape) have lawful.sized in
      let found = bounded_elements ns known typed (declarators_in x.shape) elements n dims is in
      record {
        dimensions = record { some = found.0; few = found.1.few; values = found.1.values; elements = found.1.elements };
        named = there (map (λ d. d.name) (declarators_in x.shape)) _ _ found.2;
      }
    where
      there : (a b c : List (List ℕ)) → list_any (bytes_eq n) a ≡ true → list_any (bytes_eq n) ((a ++ b) ++ c) ≡ true
      there a b c h = list_any-append (bytes_eq n) (a ++ b) c ∙ ap (λ t. t || list_any (bytes_eq n) c) (list_any-append (bytes_eq n) a b ∙ ap (λ t. t || list_any (bytes_eq n) b) h)

  array_behind : (before xs : List ItemTree) (x : ItemTree) → IsSized r (before ++ x ∷ []) xs n dims → IsSized r before (x ∷ xs) n dims
  unfolding names_from
  array_behind before xs x s =
      record {
        dimensions = s.dimensions;
        named = list_any-append (bytes_eq n) (names_at r before x) (names_from r (before ++ x ∷ []) xs) ∙ ap (λ t. list_any (bytes_eq n) (names_at r before x) || t) s.named ∙ or_true (list_any (bytes_eq n) (names_at r before x));
      }

  array_sized : (before xs : List ItemTree) → EachBehind (IsLawful r all) before xs → AreTyped r.names.types (known_behind_all r before) → arrays_from r.names.types (known_behind_all r before) xs n ≡ Some dims → IsSized r before xs n dims
  unfolding arrays_from
  array_sized before [] lawful typed is = absurd cc
  array_sized before (x ∷ xs) lawful typed is =
      by (dimensions_in r.names.types (known_behind_all r before) (declarators_in x.shape) n) refl is
      (λ h. array_sized (before ++ x ∷ []) xs lawful.1 (more_typed r all before x lawful.0 typed) (ap (λ k. arrays_from r.names.types k xs n) (known_more r before x) ∙ h))
    where
      by : (o : Option (List Dimension)) → dimensions_in r.names.types (known_behind_all r before) (declarators_in x.shape) n ≡ o
          → or_dimensions o (arrays_from r.names.types (known_behind r.names.types (known_behind_all r before) x.shape) xs n) ≡ Some dims
          → (arrays_from r.names.types (known_behind r.names.types (known_behind_all r before) x.shape) xs n ≡ Some dims → IsSized r (before ++ x ∷ []) xs n dims) → IsSized r before (x ∷ xs) n dims
      by (Some ds) here h rest = array_here before xs x lawful.0 typed (here ∙ h)
      by None none h rest = array_behind before xs x (rest h)

pub nothing_typed : (types : Types) → AreTyped types nothing_known
nothing_typed types n v h = absurd cc

pub arrays_sized : (all : List ItemTree) → EachBehind (IsLawful (symbols_of all) all) [] all → (n : List ℕ) (dims : List Dimension) → arrays_of all n ≡ Some dims → IsSized (symbols_of all) [] all n dims
arrays_sized all lawful n dims is = array_sized (symbols_of all) all n dims [] all lawful (nothing_typed (types_of all)) is
