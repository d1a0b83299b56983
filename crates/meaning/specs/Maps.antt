-- The map of a program's variables (ANSI X3.9-1978, chapters 5 and 17): a value for each name and
-- list of subscripts. A variable's list is empty. A LOGICAL is kept as 0 or 1.
use Rattle.std.specs.Prelude.{ℕ, ℤ, pos, ◌&&◌, List, if◌then◌else◌, Option, Some, None}
use Rattle.std.specs.Str.{bytes_eq}
use Rattle.std.specs.Ordering.{int_eq}
use Rattle.std.specs.Cmp.Lexicographic.{pointwise}
use Rattle.meaning.specs.Stores.{Cells}

abbrev pub Map : Type 0
Map = List ℕ → List ℤ → ℤ

-- every variable starts as 0 (own)
unfoldable pub start : Map
start n subscripts = pos 0

-- one value changed
unfoldable pub put : Map → List ℕ → List ℤ → ℤ → Map
put m n subscripts v = λ x xs. if bytes_eq n x && pointwise int_eq subscripts xs then v else m x xs

-- ---- cells

-- the cell of a name with subscripts, where there is one
abbrev pub CellNumbers : Type 0
CellNumbers = List ℕ → List ℤ → Option ℕ

abbrev pub value_at : Cells → Option ℕ → ℤ
value_at values None = pos 0
value_at values (Some c) = values c

-- the map that the values of cells stand for
unfoldable pub map_by : CellNumbers → Cells → Map
map_by numbers values = λ n ss. value_at values (numbers n ss)
