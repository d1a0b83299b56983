-- What is told of a cell: the name that has it, and the subscripts of the element.
use Rattle.std.specs.Prelude.{ℕ, ◌-◌, ◌/◌, ◌%◌, ℤ, pos, ◌+ℤ◌, List, [], ◌∷◌, Option, Some, None}
use Rattle.std.specs.Prelude.{nat_lt, if◌then◌else◌}
use Rattle.meaning.specs.Arrays.{Dimension, Named, extent, size}
use Rattle.cell_names.specs.declared.naming.CellName.{CellName}

-- a name with subscripts, none for a variable
pub record Told : Type 0 where
  pub name : List ℕ
  pub subscripts : List ℤ

abbrev pub told_by : CellName → Told
told_by c = record { name = c.name.items; subscripts = c.subscripts.items }

-- the subscripts of the element at a place, counted from 0: the first one varies fastest
abbrev pub subscripts_at : List Dimension → ℕ → List ℤ
subscripts_at [] i = []
subscripts_at (d ∷ ds) i = (d.lower +ℤ pos (i % extent d)) ∷ subscripts_at ds (i / extent d)

-- the name that has a cell, where one name's cells stand behind another's
abbrev pub told_at : List Named → ℕ → Option Told
told_at [] c = None
told_at (x ∷ xs) c =
    if nat_lt c (size x.dimensions)
    then Some (record { name = x.name; subscripts = subscripts_at x.dimensions c })
    else told_at xs (c - size x.dimensions)
