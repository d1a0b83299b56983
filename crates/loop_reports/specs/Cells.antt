-- Words, numbers, trips and cells, as text.
use Rattle.std.specs.Prelude.{ℕ, ℤ, List, [], ◌∷◌, ◌++◌, Option, Some, None, codes, decimal}
use Rattle.std.specs.Fmt.{signed_decimal}
use Rattle.cell_names.specs.Told.{Told}
use Rattle.loop_reports.specs.declared.trips.Trips.{Trips}

-- a word and a number
abbrev pub counted : List ℕ → ℕ → List ℕ
counted word n = word ++ decimal n

abbrev pub trips_text : List ℕ → Trips → List ℕ
trips_text word t = counted word t.first ++ counted (codes " TO ") t.last

-- ---- a cell

abbrev pub more_subscripts : List ℤ → List ℕ
more_subscripts [] = []
more_subscripts (s ∷ ss) = (codes "," ++ signed_decimal s) ++ more_subscripts ss

abbrev pub in_parentheses : List ℤ → List ℕ
in_parentheses [] = []
in_parentheses (s ∷ ss) = (codes "(" ++ signed_decimal s) ++ more_subscripts ss ++ codes ")"

abbrev pub name_text : Told → List ℕ
name_text t = t.name ++ in_parentheses t.subscripts

-- by its name, or by its number where no name has it
abbrev pub cell_text : Option Told → ℕ → List ℕ
cell_text (Some t) cell = name_text t
cell_text None cell = counted (codes "CELL ") cell
