-- The records of a WRITE or PRINT statement (ANSI X3.9-1978, 12.8 and chapter 13).
use Rattle.std.specs.Prelude.{◌≡◌, ℕ, List, Result, Ok, Err}
use Rattle.std.specs.Global.{Vec}
use Rattle.meaning.specs.declared.ending.FaultKind.{FaultKind}
use Rattle.meaning.specs.declared.ending.Value.{Value}
use Rattle.meaning.specs.Scopes.{scope_of}
use Rattle.meaning.specs.Syntax.{FormatTree, ItemTree, ListItemsTree}
use Rattle.meaning.specs.Lists.{Listed, listed, list_limit}
use Rattle.meaning.specs.Maps.{Map}
use Rattle.meaning.specs.Records.{edited}
use Rattle.meaning.specs.Execution.{parts_for}

-- the records of a list under a format, or the fault of either; and the map behind the list, or
-- that its fault left
abbrev pub recorded_by : (List Value → Result (List ℕ) FaultKind) → Listed →
    Result (List ℕ) FaultKind × Map
recorded_by edit (Ok l) = (edit l.values, l.map)
recorded_by edit (Err f) = (Err f.kind, f.map)

-- those of a WRITE or PRINT statement
abbrev pub recorded : List ItemTree → FormatTree → ListItemsTree → Map → Result (List ℕ) FaultKind
    × Map
recorded program source list m =
    recorded_by (λ vs. edited (parts_for program source) vs)
    (listed (scope_of program) list m list_limit)

-- records or a fault are what the definition gives
abbrev pub AreEdited : Result (Vec ℕ) FaultKind → Result (List ℕ) FaultKind → Type 0
AreEdited (Ok v) found = found ≡ Ok v.items
AreEdited (Err kind) found = found ≡ Err kind

-- and so is the map
abbrev pub AreRecorded : Result (Vec ℕ) FaultKind → Map → Result (List ℕ) FaultKind × Map → Type 0
AreRecorded r m found = AreEdited r found.0 × (found.1 ≡ m)
