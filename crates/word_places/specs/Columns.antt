-- Where a name or a number stands in the lines of a statement (ANSI X3.9-1978, 3.1 to 3.3): its own
-- words.
use Rattle.std.specs.Prelude.{ℕ, suc, ◌-◌, Bool, true, false, not, ◌&&◌, ◌||◌, ◌==◌, nat_lt, List}
use Rattle.std.specs.Prelude.{[], ◌∷◌, ◌++◌, drop, length, codes, if◌then◌else◌, Option, Some, None}
use Rattle.std.specs.Prelude.{option_map}
use Rattle.std.specs.List.{list_all, list_any}
use Rattle.std.specs.Option.{option_or}
use Rattle.meaning.specs.Characters.{apostrophe, blank, is_alphanumeric, is_digit, raised}
use Rattle.meaning.specs.Lines.{card, is_comment, lines_of, statement_field}
use Rattle.source_columns.specs.Excerpts.{is_start}
use Rattle.word_places.specs.declared.marks.Mark.{Mark}
use Rattle.word_places.specs.declared.places.Place.{Place}
use Rattle.word_places.specs.declared.scan.Scan.{Scan}

-- ---- the characters of a statement that are no blanks, in columns 7 to 72, a letter raised

unfoldable pub marks_from : ℕ → ℕ → List ℕ → List Mark
marks_from line column [] = []
marks_from line column (c ∷ cs) =
    if c == blank then marks_from line (suc column) cs
    else record { line = line; column = column; code = raised c } ∷ marks_from line (suc column) cs

abbrev pub marks_in : ℕ → List ℕ → List Mark
marks_in line text = marks_from line 7 (statement_field (card text))

-- those of the lines before the next initial line, behind a line of this number; lines from 2^32 on
-- have no number (own)
unfoldable pub marks_behind : ℕ → List (List ℕ) → List Mark
marks_behind line [] = []
marks_behind line (l ∷ ls) =
    if is_start l || not (nat_lt line 4294967295) then []
    else (if is_comment (card l) then [] else marks_in (suc line) l) ++ marks_behind (suc line) ls

abbrev pub marks_with : ℕ → List (List ℕ) → List Mark
marks_with line [] = []
marks_with line (l ∷ ls) = marks_in line l ++ marks_behind line ls

-- those of the statement whose initial line has this number, counted from 1
abbrev pub marks_of : ℕ → List ℕ → List Mark
marks_of line source = marks_with line (drop (line - 1) (lines_of source))

-- ---- whole words

-- the words that a name or a label may stand behind with nothing between, where a statement begins:
-- a DO statement's with its label
abbrev pub leading_words : List (List ℕ)
leading_words =
    codes "INTEGER" ∷
    (codes "LOGICAL" ∷
    (codes "DIMENSION" ∷ (codes "DATA" ∷ (codes "GOTO" ∷ (codes "PRINT" ∷ (codes "DO" ∷ []))))))

-- such a word, and digits behind it or nothing
abbrev pub leads_with : List ℕ → List Mark → Bool
leads_with [] run = list_all (λ m. is_digit m.code) run
leads_with (c ∷ cs) [] = false
leads_with (c ∷ cs) (m ∷ ms) = c == m.code && leads_with cs ms

-- no letter or digit stands directly before, or such a word alone
abbrev pub may_follow : Bool → List Mark → Bool
may_follow leads run =
    (length run == 0) || (leads && list_any (λ w. leads_with w run) leading_words)

-- the word stands here, and behind it neither a letter nor a digit
abbrev pub stands_here : List ℕ → List Mark → Bool
stands_here [] [] = true
stands_here [] (m ∷ ms) = not (is_alphanumeric m.code)
stands_here (c ∷ cs) [] = false
stands_here (c ∷ cs) (m ∷ ms) = c == m.code && stands_here cs ms

-- ---- how far one has come in a statement: in a character constant; between the periods of an
-- operator; the letters and digits directly before begin at this place, and the statement with
-- them, or what stands behind a closing parenthesis

abbrev pub scan_start : Scan
scan_start = record { quoted = false; dotted = false; leads = true; start = 0 }

-- behind a mark of this code at this place
abbrev pub scan_behind : ℕ → ℕ → Scan → Scan
scan_behind place code s =
    if s.quoted
    then record {
      quoted = not (code == apostrophe);
      dotted = s.dotted;
      leads = false;
      start =
          suc place;
    }
    else (if is_alphanumeric code then s
    else record {
      quoted = code == apostrophe;
      dotted = if code == 46 then not s.dotted
          else s.dotted;
      leads = code == 41;
      start = suc place;
    })

-- a word may begin behind these marks
abbrev pub may_begin : Scan → List Mark → Bool
may_begin s front = not s.quoted && (not s.dotted && may_follow s.leads (drop s.start front))

-- the first whole word, behind these marks
unfoldable pub first_word : List ℕ → Scan → List Mark → List Mark → Option Mark
first_word word s front [] = None
first_word word s front (m ∷ ms) =
    if may_begin s front && stands_here word (m ∷ ms) then Some m
    else first_word word (scan_behind (length front) m.code s) (front ++ m ∷ []) ms

-- ---- the place that is shown: of a word its first character, else that of the statement

abbrev pub first_mark : List Mark → Option Mark
first_mark [] = None
first_mark (m ∷ ms) = Some m

abbrev pub mark_at : Option (List ℕ) → List Mark → Option Mark
mark_at None ms = first_mark ms
mark_at (Some word) ms = option_or (first_word word scan_start [] ms) (first_mark ms)

abbrev pub place_in : Mark → Place
place_in m = record { line = m.line; column = m.column }

abbrev pub place_at : ℕ → Option (List ℕ) → List ℕ → Option Place
place_at line word source = option_map place_in (mark_at word (marks_of line source))
