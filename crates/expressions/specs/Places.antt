-- Places: what a name and the subscripts that are known lead to.
use Rattle.std.specs.Prelude.{◌^◌, ◌+◌, ◌-◌, ◌*◌, min, ℕ, zero, suc, ℤ, List, map, Option, Some}
use Rattle.std.specs.Prelude.{None}
use Rattle.meaning.specs.Arrays as arrays
use Rattle.expressions.specs.declared.place.ElementAddress.{ElementAddress}
use Rattle.expressions.specs.Dimensions.{dimension}

-- a number that stops at the greatest of 64 bits
abbrev pub capped : ℕ → ℕ
capped n = min n (2 ^ 64 - 1)

-- the dimensions that are left
abbrev pub left : ElementAddress → List arrays.Dimension
left p = map dimension p.left.now

abbrev pub from_cell : Option ℕ → ℕ → Option ℕ → Option ℕ
from_cell None stride o = None
from_cell (Some c) stride None = None
from_cell (Some c) stride (Some i) = Some (c + stride * i)

-- the cell by the subscripts that are left
abbrev pub behind : ElementAddress → List ℤ → Option ℕ
behind p ss = from_cell p.cell p.stride (arrays.place (left p) ss)

-- one more than the last of its cells, where it has cells
abbrev pub limit_by : Option ℕ → ℕ → ℕ → ℕ
limit_by None stride n = 0
limit_by (Some c) stride zero = 0
limit_by (Some c) stride (suc m) = c + stride * m + 1

abbrev pub limit : ElementAddress → ℕ
limit p = limit_by p.cell p.stride (arrays.size (left p))
