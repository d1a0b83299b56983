-- Expressions in the statements of a program.
use Rattle.std.specs.Prelude.{◌≡◌, ℕ, ℤ, List, Some, Result, Ok, Err}
use Rattle.meaning.specs.declared.ending.FaultKind.{FaultKind}
use Rattle.meaning.specs.declared.syntax.Tree.{Tree}
use Rattle.meaning.specs.Maps.{Map, map_by}
use Rattle.meaning.specs.Scopes.{scope_of}
use Rattle.meaning.specs.Stores.{Cells}
use Rattle.meaning.specs.Trees.{flatten}
use Rattle.meaning.specs.Syntax.{ExprsTree}
use Rattle.meaning.specs.Values.{Scope, dimensions_in, subscripts}
use Rattle.storage.specs.Checked.{tree_of, numbers_in}

-- what names stand for in its statements
abbrev pub scope_in : Tree → Scope
scope_in t = scope_of (flatten (tree_of t))

-- the map that the values of cells stand for
abbrev pub map_at : Tree → Cells → Map
map_at t values = map_by (numbers_in t) values

-- the subscripts that lead to a cell, or their leftmost fault
pub record HasCell (t : Tree) (n : List ℕ) (es : ExprsTree) (c : ℕ) (m : Cells) : Type 0 where
  pub values : List ℤ
  pub are : subscripts (scope_in t) (dimensions_in ((scope_in t).arrays n)) es (map_at t m)
      ≡ Ok values
  pub cell : numbers_in t n values ≡ Some c

abbrev pub IsCellAt : Tree → List ℕ → ExprsTree → Result ℕ FaultKind → Cells → Type 0
IsCellAt t n es (Ok c) m = HasCell t n es c m
IsCellAt t n es (Err k) m =
    subscripts (scope_in t) (dimensions_in ((scope_in t).arrays n)) es (map_at t m) ≡ Err k
