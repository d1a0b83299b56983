-- Whole arrays in output lists, whose cells stand one behind the other.
use Rattle.std.proofs.Common.{◌≡◌, ◌<◌, ◌≤◌, ◌^◌, ℕ, zero, suc, ◌+◌, ◌*◌, ℤ, Bool, true, false, List, [], ◌∷◌, Option, Some, None, refl, sym, ap, subst, ◌∙◌, arith}
use Rattle.std.specs.Prelude.{IsSome, IsTrue, if◌then◌else◌, is_some, option_map, min}
use Rattle.std.specs.Str.{bytes_eq}
use Rattle.std.proofs.lemmas.Slice.Eq.{bytes_eq-Decides}
use Rattle.meaning.specs.declared.syntax.Tree.{Tree}
use Rattle.meaning.specs.Arrays.{Dimension, cell_of, place, size}
use Rattle.meaning.specs.Scopes.{arrays_of}
use Rattle.meaning.specs.Syntax.{ExprTree, number, truth, name, signed, negated, binary, paren, element, call}
use Rattle.meaning.specs.Values.{Arrays, dimensions_in}
use Rattle.meaning.proofs.Elements.{one_to_one, place-lt}
use Rattle.expressions.specs.declared.numbering.Cells.{Cells}
use Rattle.expressions.specs.Names.{AreCells, IsArray}
use Rattle.expressions.specs.Places.{behind, capped, from_cell, left, limit_by}
use Rattle.compiler.specs.Ruly.{IsRuly}
use Rattle.storage.specs.Checked.{count_in, items_in, names_in, numbers_in}
use Rattle.storage.specs.Numbered.{named, variables_of}
use Rattle.program.specs.declared.action.WholeArray.{WholeArray}
use Rattle.program.specs.Codes.{setting_in}
use Rattle.program.specs.Items.{IsWholeArray, StandsFor, is_logical_type}
use Rattle.rule_laws.specs.References.{HasElement}
use Rattle.ruly_laws.specs.Statements.{IsNameCodable, IsValueCodable}

-- ---- the second element's cell is the one behind the first's

module _ (arrays : Arrays) (n : List ℕ) (ss ts : List ℤ) (first : place (dimensions_in (arrays n)) ss ≡ Some 0) (next : place (dimensions_in (arrays n)) ts ≡ Some 1) where
  later : (m a b : ℕ) (o p : Option ℕ) → ((c d : ℕ) → o ≡ Some c → p ≡ Some d → d ≡ c + 1) → option_map (λ c. m + c) o ≡ Some a → option_map (λ c. m + c) p ≡ Some b → b ≡ a + 1
  later m a b None p next_one h k = absurd cc
  later m a b (Some c) None next_one h k = absurd cc
  later m a b (Some c) (Some d) next_one h k =
      let one = next_one c d refl refl in
      let low : m + c ≡ a = cc in
      let high : m + d ≡ b = cc in
      omega (arith, one, low, high)

  next_cell : (names : List (List ℕ)) (a b : ℕ) → cell_of (named arrays names) n ss ≡ Some a → cell_of (named arrays names) n ts ≡ Some b → b ≡ a + 1
  next_cell [] a b is next_is = absurd cc
  next_cell (x ∷ xs) a b is next_is = by (bytes_eq n x) refl (next_cell xs) is next_is
    where
      cells_by : Bool → List ℤ → Option ℕ
      cells_by c us = if c then place (dimensions_in (arrays x)) us else option_map (λ d. size (dimensions_in (arrays x)) + d) (cell_of (named arrays xs) n us)

      by : (c : Bool) → bytes_eq n x ≡ c → ((d e : ℕ) → cell_of (named arrays xs) n ss ≡ Some d → cell_of (named arrays xs) n ts ≡ Some e → e ≡ d + 1) → cells_by c ss ≡ Some a → cells_by c ts ≡ Some b → b ≡ a + 1
      by true same rest h k =
          let own = sym ((bytes_eq-Decides n x).0 same) in
          let front : Some a ≡ Some 0 = sym h ∙ ap (λ y. place (dimensions_in (arrays y)) ss) own ∙ first in
          let back : Some b ≡ Some 1 = sym k ∙ ap (λ y. place (dimensions_in (arrays y)) ts) own ∙ next in
          let low : a ≡ 0 = cc in
          let high : b ≡ 1 = cc in
          omega (arith, low, high)
      by false other rest h k = later (size (dimensions_in (arrays x))) a b (cell_of (named arrays xs) n ss) (cell_of (named arrays xs) n ts) rest h k

-- ---- the cells of an array

module _ (t : Tree) (n : List ℕ) (c : Cells) (is : IsArray (names_in t) (numbers_in t) (count_in t) n (Some c)) (first : ℕ) (at : c.place.cell ≡ Some first) where
  abbrev ds : List Dimension
  ds = left c.place

  abbrev stride : ℕ
  stride = c.place.stride

  cells : (ss : List ℤ) → from_cell (Some first) stride (place ds ss) ≡ numbers_in t n ss
  cells ss = subst (λ o. from_cell o stride (place ds ss) ≡ numbers_in t n ss) at (is.1.cells ss)

  near_stride : 2 ≤ size ds → stride ≡ 1
  near_stride two =
      let own = one_to_one ds in
      let front = own.all 0 (omega (arith, two)) in
      let next = own.all 1 (omega (arith, two)) in
      let same : dimensions_in ((names_in t).arrays n) ≡ ds = ap dimensions_in is.0 in
      let low : numbers_in t n front.0 ≡ Some (first + stride * 0) = sym (cells front.0) ∙ ap (from_cell (Some first) stride) front.1 in
      let high : numbers_in t n next.0 ≡ Some (first + stride * 1) = sym (cells next.0) ∙ ap (from_cell (Some first) stride) next.1 in
      let apart = next_cell (arrays_of (items_in t)) n front.0 next.0 (ap (λ d. place d front.0) same ∙ front.1) (ap (λ d. place d next.0) same ∙ next.1) (variables_of (items_in t)) (first + stride * 0) (first + stride * 1) low high in
      omega (arith, apart)

  near_at : (i : ℕ) → i < size ds → first + 1 * i ≡ first + stride * i
  near_at zero lt = omega arith
  near_at (suc i) lt = ap (λ k. first + k * suc i) (sym (near_stride (omega (arith, lt))))

  near_cells : (ss : List ℤ) → from_cell (Some first) 1 (place ds ss) ≡ numbers_in t n ss
  near_cells ss = by (place ds ss) refl ∙ cells ss
    where
      by : (o : Option ℕ) → place ds ss ≡ o → from_cell (Some first) 1 o ≡ from_cell (Some first) stride o
      by None h = refl
      by (Some i) h = ap Some (near_at i (place-lt ds ss i h))

  near_limit : (m : ℕ) → size ds ≡ m → limit_by (Some first) 1 m ≡ limit_by (Some first) stride m
  near_limit zero h = refl
  near_limit (suc m) h = ap (λ k. k + 1) (near_at m (omega (arith, h)))

  limited : limit_by (Some first) 1 (size ds) ≤ count_in t
  limited =
      subst (λ l. l ≤ count_in t) (sym (near_limit (size ds) refl)) (subst (λ o. limit_by o stride (size ds) ≤ count_in t) at is.1.limited)

  few : limit_by (Some first) 1 (size ds) < 2 ^ 64
  few =
      subst (λ l. l < 2 ^ 64) (sym (near_limit (size ds) refl)) (subst (λ o. limit_by o stride (size ds) < 2 ^ 64) at is.1.few)

  pub capped_is : capped (size ds) ≡ size ds
  capped_is = by (size ds) few
    where
      by : (m : ℕ) → limit_by (Some first) 1 m < 2 ^ 64 → capped m ≡ m
      by zero h = omega arith
      by (suc m) h = let low : first + 1 * m + 1 < 2 ^ 64 = h in omega (arith, low)

  -- where it has one element its stride may as well be 1
  abbrev pub near : Cells
  near = record { place = record { cell = Some first; stride = 1; left = c.place.left }; data_type = c.data_type }

  pub near_array : IsArray (names_in t) (numbers_in t) (count_in t) n (Some near)
  near_array =
      (is.0, record { dimensions = is.1.dimensions; cells = near_cells; typed = is.1.typed; limited = limited; few = few })

-- ---- whole arrays

pub whole : (t : Tree) (e : ExprTree) (c : Cells) → StandsFor t e (Some c) → (first : ℕ) → c.place.cell ≡ Some first → (a : WholeArray) → a.first ≡ first → a.size ≡ capped (size (left c.place)) → a.is_logical ≡ is_logical_type c.data_type → IsWholeArray t e a
whole t (name n) c is first at a begins many kind =
    record {
      cells = near t n c is first at;
      is = near_array t n c is first at;
      first = ap Some (sym begins);
      near = refl;
      many = many ∙ capped_is t n c is first at;
      kind = kind;
    }
whole t (number digits) c is first at a begins many kind = absurd cc
whole t (truth b) c is first at a begins many kind = absurd cc
whole t (signed sign e) c is first at a begins many kind = absurd cc
whole t (negated e) c is first at a begins many kind = absurd cc
whole t (binary operator d e) c is first at a begins many kind = absurd cc
whole t (paren e) c is first at a begins many kind = absurd cc
whole t (element letters es) c is first at a begins many kind = absurd cc
whole t (call letters) c is first at a begins many kind = absurd cc

has_first : (o : Option ℕ) (stride : ℕ) (i : Option ℕ) (cell : ℕ) → from_cell o stride i ≡ Some cell → IsSome o
has_first None stride i cell is = absurd cc
has_first (Some c) stride i cell is = refl

pub stored : (t : Tree) (e : ExprTree) (c : Cells) → StandsFor t e (Some c) → IsValueCodable (setting_in t) e → IsSome c.place.cell
stored t (name n) c is codable =
    let element : HasElement (numbers_in t) n = subst (IsNameCodable (setting_in t) n) is.0 codable in
    has_first c.place.cell c.place.stride (place (left c.place) element.subscripts) element.kept.cell (is.1.cells element.subscripts ∙ element.kept.found)
stored t (number digits) c is codable = absurd cc
stored t (truth b) c is codable = absurd cc
stored t (signed sign e) c is codable = absurd cc
stored t (negated e) c is codable = absurd cc
stored t (binary operator d e) c is codable = absurd cc
stored t (paren e) c is codable = absurd cc
stored t (element letters es) c is codable = absurd cc
stored t (call letters) c is codable = absurd cc

-- what is no array's name is evaluated
pub single : (t : Tree) (e : ExprTree) → StandsFor t e None → IsValueCodable (setting_in t) e → IsRuly (setting_in t) e
single t (name n) is codable = subst (IsNameCodable (setting_in t) n) is codable
single t (number digits) is codable = codable
single t (truth b) is codable = codable
single t (signed sign e) is codable = codable
single t (negated e) is codable = codable
single t (binary operator d e) is codable = codable
single t (paren e) is codable = codable
single t (element letters es) is codable = codable
single t (call letters) is codable = codable
