-- The lines of a source, their columns and their classes (ANSI X3.9-1978, 3.2).
use Rattle.std.specs.Prelude.{ℕ, ◌+◌, Bool, ◌||◌, List, [], ◌∷◌, ◌++◌, map, take, drop, replicate}
use Rattle.std.specs.Prelude.{get_or, ◌==◌, if◌then◌else◌}
use Rattle.std.specs.List.{list_all}
use Rattle.meaning.specs.Characters.{blank}

-- a byte more at the front of the first line
abbrev pub onto_first : ℕ → List (List ℕ) → List (List ℕ)
onto_first b [] = (b ∷ []) ∷ []
onto_first b (l ∷ ls) = (b ∷ l) ∷ ls

-- the pieces between line feeds; nothing after the last line feed is no piece
unfoldable pub pieces : List ℕ → List (List ℕ)
pieces [] = []
pieces (b ∷ bs) = if b == 10 then [] ∷ pieces bs else onto_first b (pieces bs)

-- a carriage return at the end is no character of the line
unfoldable pub without_return : List ℕ → List ℕ
without_return [] = []
without_return (b ∷ []) = if b == 13 then [] else b ∷ []
without_return (b ∷ c ∷ bs) = b ∷ without_return (c ∷ bs)

unfoldable pub lines_of : List ℕ → List (List ℕ)
lines_of source = map without_return (pieces source)

-- columns 1 to 72 of a line, which blanks fill up (own)
unfoldable pub card : List ℕ → List ℕ
card line = take 72 (line ++ replicate 72 blank)

-- columns 1 to 5, column 6 and columns 7 to 72 of a card
abbrev pub label_field : List ℕ → List ℕ
label_field columns = take 5 columns

abbrev pub continuation_field : List ℕ → ℕ
continuation_field columns = get_or columns 5 blank

abbrev pub statement_field : List ℕ → List ℕ
statement_field columns = drop 6 columns

-- a comment line has C or an asterisk in column 1, or blanks alone (3.2.1)
abbrev pub is_comment : List ℕ → Bool
is_comment columns =
    (get_or columns 0 blank == 67) || (get_or columns 0 blank == 99)
    || (get_or columns 0 blank == 42) || list_all (λ c. c == blank) columns

-- of the other lines an initial line has a blank or 0 in column 6 (3.2.2), and a continuation line
-- any other character (3.2.3)
abbrev pub is_initial : List ℕ → Bool
is_initial columns = (continuation_field columns == blank) || (continuation_field columns == 48)

-- a line that is no comment: its number and its columns
pub record StatementLine : Type 0 where
  pub line : ℕ
  pub columns : List ℕ

-- the lines that are no comments; comments are counted, and the first line has this number
unfoldable pub statement_lines : ℕ → List (List ℕ) → List StatementLine
statement_lines line [] = []
statement_lines line (l ∷ ls) =
    if is_comment (card l) then statement_lines (line + 1) ls
    else record { line = line; columns = card l } ∷ statement_lines (line + 1) ls
