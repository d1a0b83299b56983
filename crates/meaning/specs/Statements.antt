-- The statements of a source, and the rules on lines (ANSI X3.9-1978, 3.2 to 3.4).
use Rattle.std.specs.Prelude.{◌≡◌, ℕ, ◌%◌, Bool, true, false, ◌&&◌, ◌||◌, not, List, [], ◌∷◌, ◌++◌}
use Rattle.std.specs.Prelude.{map, drop, length, nat_lt, nat_le, ◌==◌, if◌then◌else◌, Option, Some}
use Rattle.std.specs.Prelude.{None, Result, Err, count_by}
use Rattle.std.specs.List.{list_all, list_any, filter, flat_map, take_while}
use Rattle.meaning.specs.declared.refusal.Broken.{Broken}
use Rattle.meaning.specs.declared.refusal.Rule.{Rule}
use Rattle.meaning.specs.declared.refusal.Rule.TheVariants.{C1, C2, C3, C4, C5, C6, C7}
use Rattle.meaning.specs.declared.statement.Statement.{Statement}
use Rattle.meaning.specs.Characters.{blank, apostrophe, is_digit, number_of}
use Rattle.meaning.specs.Refusals.{least, unless}
use Rattle.meaning.specs.Lines.{lines_of, label_field, statement_field, is_initial, StatementLine}
use Rattle.meaning.specs.Lines.{statement_lines}

-- ---- statements

-- the continuation lines in front of the first initial line
abbrev pub continuations : List StatementLine → List StatementLine
continuations ls = take_while (λ l. not (is_initial l.columns)) ls

-- the lines of a statement: an initial line and the continuation lines behind it (3.3)
pub record Group : Type 0 where
  pub initial : StatementLine
  pub continued : List StatementLine

abbrev pub lines_in : Group → List StatementLine
lines_in g = g.initial ∷ g.continued

-- a group for each initial line
unfoldable pub groups : List StatementLine → List Group
groups [] = []
groups (l ∷ ls) =
    if is_initial l.columns then record { initial = l; continued = continuations ls } ∷ groups ls
    else groups ls

-- columns 7 to 72 of the lines, joined
abbrev pub text_of : Group → List ℕ
text_of g = flat_map (λ l. statement_field l.columns) (lines_in g)

abbrev pub is_group : Group → Bool
is_group g = is_initial g.initial.columns && list_all (λ l. not (is_initial l.columns)) g.continued

-- the lines, in order, are those with no initial line before them and then the groups
pub record IsGrouped (ls : List StatementLine) : Type 0 where
  pub in_order : continuations ls ++ flat_map lines_in (groups ls) ≡ ls
  pub formed : list_all is_group (groups ls) ≡ true

-- the statement label in columns 1 to 5 (3.4): their digits, without the blanks
abbrev pub label_of : List ℕ → Option ℕ
label_of columns =
    if list_any is_digit (label_field columns)
    then Some (number_of (filter is_digit (label_field columns))) else None

-- a statement: its initial line, its label and its text
pub record Entry : Type 0 where
  pub line : ℕ
  pub label : Option ℕ
  pub text : List ℕ

abbrev pub entry_in : Group → Entry
entry_in g = record { line = g.initial.line; label = label_of g.initial.columns; text = text_of g }

-- ---- broken rules

-- a pair, if the test says so
abbrev pub broken_if : Bool → ℕ → Rule → List Broken
broken_if true line rule = record { line = line; rule = rule } ∷ []
broken_if false line rule = []

abbrev pub is_printable : ℕ → Bool
is_printable c = nat_le 32 c && nat_le c 126

-- blanks alone
abbrev pub is_blank_field : List ℕ → Bool
is_blank_field field = list_all (λ c. c == blank) field

-- blanks alone, or a label that isn't zero
abbrev pub is_label_field : List ℕ → Bool
is_label_field field =
    list_all (λ c. is_digit c || (c == blank)) field
    && (not (list_any is_digit field) || nat_lt 0 (number_of (filter is_digit field)))

-- an odd number of apostrophes
abbrev pub is_unpaired : List ℕ → Bool
is_unpaired text = count_by (λ c. c == apostrophe) text % 2 == 1

-- a line by itself: its characters, and columns 1 to 5 of an initial line and of a continuation
-- line
abbrev pub broken_in_line : StatementLine → List Broken
broken_in_line l =
    broken_if (not (list_all is_printable l.columns)) l.line C1
    ++ (broken_if (is_initial l.columns && not (is_label_field (label_field l.columns))) l.line
    C2 ++ broken_if (not (is_initial l.columns) && not (is_blank_field (label_field l.columns)))
    l.line C3)

-- a continuation line with no initial line before it
abbrev pub broken_alone : StatementLine → Broken
broken_alone l = record { line = l.line; rule = C4 }

-- the first of the continuation lines past the nineteenth
abbrev pub broken_past : List StatementLine → List Broken
broken_past [] = []
broken_past (l ∷ ls) = record { line = l.line; rule = C5 } ∷ []

-- a statement: the number of its continuation lines, and the apostrophes over all its lines
abbrev pub broken_in_group : Group → List Broken
broken_in_group g =
    broken_past (drop 19 g.continued) ++ broken_if (is_unpaired (text_of g)) g.initial.line C6

abbrev pub broken_in : List StatementLine → List Broken
broken_in ls =
    flat_map broken_in_line ls
    ++ (map broken_alone (continuations ls) ++ flat_map broken_in_group (groups ls))

-- too many bytes, or too many lines
abbrev pub is_too_long : List ℕ → Bool
is_too_long source = nat_lt 1048576 (length source) || nat_lt 65535 (length (lines_of source))

-- the statements of lines, or the least broken pair
unfoldable pub statements_in : List StatementLine → Result (List Entry) Broken
statements_in ls = unless (least (broken_in ls)) (map entry_in (groups ls))

-- the statements of a source, or the least broken pair of the first phase that has one
unfoldable pub statements_of : List ℕ → Result (List Entry) Broken
statements_of source =
    if is_too_long source then Err (record { line = 1; rule = C7 })
    else statements_in (statement_lines 1 (lines_of source))

-- what a value of the Rust type stands for
abbrev pub entry_of : Statement → Entry
entry_of s = record { line = s.line; label = s.label; text = s.text.items }
