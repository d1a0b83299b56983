-- The edit descriptors that values meet under the formats of a program (ANSI X3.9-1978, 13.1 to
-- 13.3).
use Rattle.std.specs.Prelude.{◌≡◌, ◌⊎◌, ℕ, List, Option, Some}
use Rattle.meaning.specs.declared.syntax.Tree.{Tree}
use Rattle.meaning.specs.Formats.{Descriptor, Parts}
use Rattle.storage.specs.Told.{format_at, text_format_at}
use Rattle.fault_details.specs.Fields.{field_for}

-- a format of the program: that of a FORMAT statement, or one in a character constant
abbrev pub HasFormat : Tree → Parts → Type 0
HasFormat p ps =
    ((label : List ℕ) × (format_at p label ≡ Some ps))
    ⊎ ((text : List ℕ) × (text_format_at p text ≡ Some ps))

-- under one of them, the value behind so many others meets this edit descriptor, or none
abbrev pub GoesTo : Tree → Option Descriptor → Type 0
GoesTo p met = (ps : Parts) × (before : ℕ) × HasFormat p ps × (field_for ps before ≡ met)
