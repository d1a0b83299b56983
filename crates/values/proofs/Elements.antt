-- The elements of a whole array in an output list, one behind another.
use Rattle.std.proofs.Common.{◌≡◌, ◌<◌, ◌≤◌, ◌+◌, ◌*◌, ℕ, zero, suc, ℤ, List, [], ◌∷◌, ◌++◌, append-nil, Option, Some, None, Ok, refl, sym, ap, subst, ◌∙◌, arith}
use Rattle.std.specs.Prelude.{FitsSigned}
use Rattle.std.specs.Int.{w32}
use Rattle.meaning.specs.declared.ending.Value.{Value}
use Rattle.meaning.specs.declared.syntax.DataType.{DataType}
use Rattle.meaning.specs.declared.syntax.DataType.TheVariants as types
use Rattle.meaning.specs.declared.syntax.Tree.{Tree}
use Rattle.meaning.specs.Arrays.{size}
use Rattle.meaning.specs.Maps.{value_at as value_in}
use Rattle.meaning.specs.Stores.{World, Reads}
use Rattle.meaning.specs.Syntax.{ExprTree, name, number, truth, signed, negated, binary, paren, element, call}
use Rattle.meaning.specs.Values.{typed}
use Rattle.meaning.proofs.Stores.{reads_nothing, reads_so}
use Rattle.expressions.specs.declared.numbering.Cells.{Cells as Variable}
use Rattle.expressions.specs.Listed.{AreValues, Partly, cell_at, element_at}
use Rattle.expressions.specs.Places.{from_cell, left, limit, limit_by}
use Rattle.expressions.proofs.Exact.{in_range}
use Rattle.expressions.proofs.Items.{partly_more}
use Rattle.storage.specs.Checked.{count_in}
use Rattle.program.specs.declared.action.WholeArray.{WholeArray}
use Rattle.program.specs.Items.{IsWholeArray, StandsFor, is_logical_type}
use Rattle.values.specs.Stacked.{value_at}

-- ---- the cells

cells_of : (t : Tree) (e : ExprTree) (c : Variable) → StandsFor t e (Some c) → (limit c.place ≤ count_in t)
cells_of t (name n) c is = is.1.limited
cells_of t (number digits) c is = absurd cc
cells_of t (truth b) c is = absurd cc
cells_of t (signed sign e) c is = absurd cc
cells_of t (negated e) c is = absurd cc
cells_of t (binary operator a b) c is = absurd cc
cells_of t (paren e) c is = absurd cc
cells_of t (element letters es) c is = absurd cc
cells_of t (call letters) c is = absurd cc

module _ (t : Tree) (e : ExprTree) (a : WholeArray) (h : IsWholeArray t e a) where
  -- an element's cell is one of the program's
  pub cell_within : (at : ℕ) → at < a.size → a.first + at < count_in t
  cell_within at lt = by_size (size (left h.cells.place)) refl
    where
      below : ℕ → Type 0
      below n = limit_by (Some a.first) 1 n ≤ count_in t

      there : below (size (left h.cells.place))
      there =
          subst (λ s. limit_by (Some a.first) s (size (left h.cells.place)) ≤ count_in t) h.near (subst (λ o. limit_by o h.cells.place.stride (size (left h.cells.place)) ≤ count_in t) h.first (cells_of t e h.cells h.is))

      by_size : (n : ℕ) → size (left h.cells.place) ≡ n → a.first + at < count_in t
      by_size zero none = absurd (let m = h.many in omega (arith, lt, m, none))
      by_size (suc n) some =
          let m = h.many in
          let l : a.first + 1 * n + 1 ≤ count_in t = subst below some there in
          omega (arith, lt, m, some, l)

  element_cell : (at : ℕ) → cell_at h.cells.place at ≡ Some (a.first + at)
  element_cell at =
      ap (λ s. from_cell h.cells.place.cell s (Some at)) h.near ∙ ap (λ o. from_cell o 1 (Some at)) h.first ∙ ap Some one
    where
      one : a.first + 1 * at ≡ a.first + at
      one = omega arith

  -- ---- the values

  typed_as : (k : Option DataType) (z : ℤ) → FitsSigned w32 z → typed k z ≡ Ok (value_at (is_logical_type k) z)
  typed_as (Some types.Logical) z fits = refl
  typed_as (Some types.Integer) z fits = in_range z fits
  typed_as None z fits = in_range z fits

  pub none_yet : (w : World) (before : List Value) → Partly w w h.cells before before 0
  none_yet w before =
      record {
        values = [];
        behind = sym (append-nil before);
        many = refl;
        reads = reads_nothing w (λ m. AreValues (element_at h.cells m) 0 []) (λ m. tt);
      }

  pub one_more : (u v w : World) (before now next : List Value) (at : ℕ) (z : ℤ) (x : Value) → Partly u v h.cells before now at → next ≡ now ++ x ∷ [] → Reads v w (λ m. value_in m (Some (a.first + at)) ≡ z) → FitsSigned w32 z → x ≡ value_at a.is_logical z → Partly u w h.cells before next (at + 1)
  one_more u v w before now next at z x so_far is reads fits valued =
      partly_more u v w h.cells before now next at z x so_far is (reads_so v w (λ m. value_in m (Some (a.first + at)) ≡ z) (λ m. value_in m (cell_at h.cells.place at) ≡ z) reads (λ m e. ap (value_in m) (element_cell at) ∙ e)) (typed_as h.cells.data_type z fits ∙ ap Ok (sym (valued ∙ ap (λ b. value_at b z) h.kind)))
