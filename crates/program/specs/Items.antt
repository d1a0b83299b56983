-- The codes of the items in output lists (ANSI X3.9-1978, 12.8.2).
use Rattle.std.specs.Prelude.{◌≡◌, Bool, true, false, Option, Some, None}
use Rattle.meaning.specs.declared.syntax.DataType.{DataType}
use Rattle.meaning.specs.declared.syntax.DataType.TheVariants as types
use Rattle.meaning.specs.declared.syntax.Tree.{Tree}
use Rattle.meaning.specs.Arrays.{size}
use Rattle.meaning.specs.Syntax.{ExprTree, FormatTree, ListItemTree, ListItemsTree, no_items}
use Rattle.meaning.specs.Syntax.{more_items, value_item, loop_item}
use Rattle.expressions.specs.declared.numbering.Cells.{Cells}
use Rattle.expressions.specs.Listed.{IsArrayIn}
use Rattle.expressions.specs.Places.{left}
use Rattle.postfix.specs.declared.code.Code.{Code}
use Rattle.storage.specs.Checked.{count_in, names_in, numbers_in}
use Rattle.program.specs.declared.action.ListCode.{ListCode}
use Rattle.program.specs.declared.action.ListCode.TheVariants.{Value, Array, Loop'}
use Rattle.program.specs.declared.action.ListCodes.{ListCodes}
use Rattle.program.specs.declared.action.ListCodes.TheVariants.{Empty, More'}
use Rattle.program.specs.declared.action.WholeArray.{WholeArray}
use Rattle.program.specs.Codes.{AreLimits, IsCell, IsCode}

-- ---- whole arrays

-- an expression that stands for an array with these cells; without cells, it is no array's name
abbrev pub StandsFor : Tree → ExprTree → Option Cells → Type 0
StandsFor t e cells = IsArrayIn (names_in t) (numbers_in t) (count_in t) e cells

abbrev pub is_logical_type : Option DataType → Bool
is_logical_type (Some types.Logical) = true
is_logical_type k = false

-- the array's cells stand one behind the other, from the first on (5.2.4)
pub record IsWholeArray (t : Tree) (e : ExprTree) (a : WholeArray) : Type 0 where
  pub cells : Cells
  pub is : StandsFor t e (Some cells)
  pub first : cells.place.cell ≡ Some a.first
  pub near : cells.place.stride ≡ 1
  pub many : a.size ≡ size (left cells.place)
  pub kind : a.is_logical ≡ is_logical_type cells.data_type

-- ---- lists

-- the code of an expression that is no array's name
pub record IsSingle (t : Tree) (e : ExprTree) (c : Code) : Type 0 where
  pub is : StandsFor t e None
  pub code : IsCode t e c

-- each item has its code
abbrev mutual
  pub AreItems : Tree → ListItemsTree → ListCodes → Type 0
  AreItems t no_items Empty = Unit {0}
  AreItems t no_items (More' c p cs) = ⊥
  AreItems t (more_items x xs) Empty = ⊥
  AreItems t (more_items x xs) (More' c p cs) = IsItem t x c × AreItems t xs cs

  pub IsItem : Tree → ListItemTree → ListCode → Type 0
  IsItem t (value_item e) (Value c) = IsSingle t e c
  IsItem t (value_item e) (Array a) = IsWholeArray t e a
  IsItem t (value_item e) (Loop' p cs r) = ⊥
  IsItem t (loop_item xs variable limits) (Value c) = ⊥
  IsItem t (loop_item xs variable limits) (Array a) = ⊥
  IsItem t (loop_item xs variable limits) (Loop' p cs r) =
      AreItems t xs cs × IsCell t variable r.variable × AreLimits t limits r

-- those of the list of a WRITE or PRINT statement
abbrev pub AreItemsOf : Tree → Option (FormatTree × ListItemsTree) → ListCodes → Type 0
AreItemsOf t None list = ⊥
AreItemsOf t (Some output) list = AreItems t output.1 list
