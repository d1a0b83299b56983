-- What the items of a list add to its values.
use Rattle.std.specs.Prelude.{◌≡◌, ◌<◌, ◌+◌, ◌++◌, ℕ, suc, List, [], ◌∷◌, length, Option, Some}
use Rattle.std.specs.Prelude.{None, Result, Ok, Err}
use Rattle.meaning.specs.declared.ending.FaultKind.{FaultKind}
use Rattle.meaning.specs.declared.ending.FaultKind.TheVariants.{F8}
use Rattle.meaning.specs.declared.ending.Value.{Value}
use Rattle.meaning.specs.Syntax.{ExprTree, name}
use Rattle.meaning.specs.Lists as lists
use Rattle.meaning.specs.Maps.{Map, CellNumbers, value_at}
use Rattle.meaning.specs.Values.{Valued, typed}
use Rattle.meaning.specs.Arrays.{size}
use Rattle.meaning.specs.Stores.{Cells, World, Reads}
use Rattle.expressions.specs.declared.numbering.Cells.{Cells as Variable}
use Rattle.expressions.specs.Glossaries.{Glossary}
use Rattle.expressions.specs.Names.{IsArray}
use Rattle.expressions.specs.declared.place.ElementAddress.{ElementAddress}
use Rattle.expressions.specs.Places.{left, from_cell}

-- an expression that is an array's name stands for the array
abbrev pub IsArrayIn : Glossary → CellNumbers → ℕ → ExprTree → Option Variable → Type 0
IsArrayIn g numbers count (name n) o = IsArray g numbers count n o
IsArrayIn g numbers count e o = o ≡ None

-- ---- items behind others

-- the item has these values, whatever the store stands on, and so many may follow
pub record Adding (u v : World) (item : Cells → lists.Listed) (map : Cells → Map)
    (before after : List Value) (rest : ℕ) : Type 0 where
  pub values : List Value
  pub behind : after ≡ before ++ values
  pub reads : Reads u v (λ m. item m ≡ Ok (record { values = values; map = map m; left = rest }))

abbrev pub AddsItem : World → World → (Cells → lists.Listed) → (Cells → Map) → List Value →
    List Value → ℕ → Result (Unit {0}) FaultKind → Type 0
AddsItem u v item map before after rest (Ok t) = Adding u v item map before after rest
AddsItem u v item map before after rest (Err k) = Reads u v (λ m. item m ≡ lists.faulted k (map m))

-- ---- the elements of a whole array

-- the cell of an element by its number
abbrev pub cell_at : ElementAddress → ℕ → Option ℕ
cell_at p i = from_cell p.cell p.stride (Some i)

abbrev pub element_at : Variable → Cells → ℕ → Valued
element_at c m i = typed c.data_type (value_at m (cell_at c.place i))

-- values that a function has from a number on
abbrev pub AreValues : (ℕ → Valued) → ℕ → List Value → Type 0
AreValues f i [] = Unit {0}
AreValues f i (v ∷ vs) = (f i ≡ Ok v) × AreValues f (suc i) vs

-- the first so many elements were added
pub record Partly (u v : World) (c : Variable) (before now : List Value) (at : ℕ) : Type 0 where
  pub values : List Value
  pub behind : now ≡ before ++ values
  pub many : length values ≡ at
  pub reads : Reads u v (λ m. AreValues (element_at c m) 0 values)

pub record AddingElements (u v : World) (c : Variable) (before after : List Value) (given rest : ℕ)
    : Type 0 where
  pub values : List Value
  pub behind : after ≡ before ++ values
  pub many : length values ≡ size (left c.place)
  pub fits : rest + size (left c.place) ≡ given
  pub reads : Reads u v (λ m. AreValues (element_at c m) 0 values)

abbrev pub AddsElements : World → World → Variable → List Value → List Value → ℕ → ℕ →
    Result (Unit {0}) FaultKind → Type 0
AddsElements u v c before after given rest (Ok t) = AddingElements u v c before after given rest
AddsElements u v c before after given rest (Err k) =
    (k ≡ F8) × (given < size (left c.place)) × (v ≡ u)
