-- What the queries of a program tell.
use Rattle.std.specs.Prelude.{◌≡◌, ◌<◌, ◌^◌, ℕ, ℤ, List, Option}
use Rattle.meaning.specs.declared.syntax.DataType.{DataType}
use Rattle.meaning.specs.declared.syntax.Tree.{Tree}
use Rattle.meaning.specs.Characters.{number_of}
use Rattle.meaning.specs.Execution.{format_found}
use Rattle.meaning.specs.Formats.{Parts}
use Rattle.format_edit.specs.Constants.{constant_format}
use Rattle.expressions.specs.declared.numbering.Cells.{Cells}
use Rattle.expressions.specs.declared.numbering.Named.{Named}
use Rattle.expressions.specs.Names.{IsArray, IsNamed}
use Rattle.storage.specs.declared.parts.Storage.{Storage}
use Rattle.storage.specs.Checked.{count_in, items_in, names_in, numbers_in}
use Rattle.storage.specs.Kept.{AreCells}
use Rattle.storage.specs.Starts.{map_of, start_in}
use Rattle.storage.specs.Whereabouts.{where_in}

abbrev pub IsNamedIn : Tree → List ℕ → Named → Type 0
IsNamedIn t n r = IsNamed (names_in t) (numbers_in t) (count_in t) n r

abbrev pub IsArrayIn : Tree → List ℕ → Option Cells → Type 0
IsArrayIn t n r = IsArray (names_in t) (numbers_in t) (count_in t) n r

-- of each name of which this is kept
abbrev pub TellsArray : Storage → Option DataType → Option Cells → Type 0
TellsArray s o r =
    (t : Tree) (n : List ℕ) → count_in t < 2 ^ 64 → AreCells (where_in t n) s → o
    ≡ (names_in t).types n → IsArrayIn t n r

-- the format of the label that digits spell
abbrev pub format_at : Tree → List ℕ → Option Parts
format_at t digits = format_found (items_in t) (number_of digits)

-- the format in a character constant that is the format of a statement
abbrev pub text_format_at : Tree → List ℕ → Option Parts
text_format_at t text = constant_format (items_in t) text

-- each cell's value is what its variable or array element starts with
abbrev pub AreStarts : Tree → List ℤ → Type 0
AreStarts t values = (n : List ℕ) (ss : List ℤ) → map_of t values n ss ≡ start_in t n ss
