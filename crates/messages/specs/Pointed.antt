-- Where a message points, and the lines of a source that it shows.
use Rattle.std.specs.Prelude.{◌≡◌, ℕ, ◌+◌, ◌-◌, ◌==◌, Bool, not, List, [], ◌∷◌, ◌++◌, length, take}
use Rattle.std.specs.Prelude.{drop, map, Option, Some, None, codes, decimal, get_or, nat_lt}
use Rattle.std.specs.Prelude.{position, if◌then◌else◌}
use Rattle.std.proofs.Math.ListN.{replicate}
use Rattle.meaning.specs.Lines.{lines_of}
use Rattle.meaning.specs.Statements.{is_printable}
use Rattle.word_places.specs.declared.places.Place.{Place}
use Rattle.messages.specs.Shown.{shown}

-- ---- the first character of a statement, which is in columns 7 to 72 (ANSI X3.9-1978, 3.2.2)

-- what isn't a blank (32)
abbrev pub is_character : ℕ → Bool
is_character c = not (c == 32)

abbrev pub statement_field : List ℕ → List ℕ
statement_field line = drop 6 (take 72 line)

-- the column of the first character of a field behind column 6, by its index; 1 where there is none
abbrev pub column_at : Option ℕ → ℕ
column_at (Some before) = before + 7
column_at None = 1

abbrev pub column_of : List ℕ → ℕ
column_of line = column_at (position is_character (statement_field line))

abbrev pub first_line : List (List ℕ) → List ℕ
first_line [] = []
first_line (l ∷ ls) = l

-- the line of this number, counted from 1, and an empty one behind the last
abbrev pub line_in : ℕ → List ℕ → List ℕ
line_in number source = first_line (drop (number - 1) (lines_of source))

abbrev pub IsFirst : List ℕ → ℕ → Place → Type 0
IsFirst source line place = (place.line ≡ line) × (place.column ≡ column_of (line_in line source))

-- ---- a byte that isn't printable (ANSI X3.9-1978, 3.1)

abbrev pub is_unprintable : ℕ → Bool
is_unprintable b = not (is_printable b)

abbrev pub byte_text : ℕ → List ℕ
byte_text b =
    if b == 9 then codes "a tab" else (if nat_lt b 128 then codes "a control character" else codes "a character that isn't ASCII")

-- the column of the first one, and what it is
pub record IsUnprintable (columns : List ℕ) (column : ℕ) (text : List ℕ) : Type 0 where
  pub at : ℕ
  pub first : position is_unprintable columns ≡ Some at
  pub behind : column ≡ at + 1
  pub is_text : text ≡ byte_text (get_or columns at 0)

-- ---- what is shown of a source

-- columns 1 to 72 of a line behind a bar
abbrev pub body : List ℕ → List ℕ
body line = codes " | " ++ map shown (take 72 line) ++ codes "\n"

-- with its number, which takes five places or more
abbrev pub numbered : ℕ → List ℕ → List ℕ
numbered number line = replicate (5 - length (decimal number)) 32 ++ decimal number ++ body line

-- a mark below a column
abbrev pub mark_line : ℕ → List ℕ
mark_line column = codes "      | " ++ replicate (column - 1) 32 ++ codes "^\n"

-- up to two lines behind the mark, without numbers
abbrev pub further : List ℕ → List ℕ
further line = codes "     " ++ body line

abbrev pub behind_mark : List (List ℕ) → List ℕ
behind_mark [] = []
behind_mark (l ∷ []) = further l
behind_mark (l ∷ m ∷ ls) = further l ++ further m

-- the line that is pointed at, if there is one, and continuation lines behind it
abbrev pub pointed : Place → List (List ℕ) → List ℕ
pointed place [] = []
pointed place (l ∷ ls) = numbered place.line l ++ mark_line place.column ++ behind_mark ls
