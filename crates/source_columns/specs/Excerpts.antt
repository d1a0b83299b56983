-- The lines of one statement as they stand in a source (ANSI X3.9-1978, 3.2 and 3.3).
use Rattle.std.specs.Prelude.{ℕ, ◌-◌, Bool, ◌&&◌, not, List, [], ◌∷◌, drop}
use Rattle.std.specs.List.{filter, take_while}
use Rattle.meaning.specs.Lines.{card, is_comment, is_initial, lines_of}

-- an initial line, which begins a statement
abbrev pub is_start : List ℕ → Bool
is_start line = not (is_comment (card line)) && is_initial (card line)

abbrev pub is_continuation : List ℕ → Bool
is_continuation line = not (is_comment (card line)) && not (is_initial (card line))

-- the continuation lines before the next initial line; comment lines among them are left out
abbrev pub continued : List (List ℕ) → List (List ℕ)
continued ls = filter is_continuation (take_while (λ l. not (is_start l)) ls)

abbrev pub with_continued : List (List ℕ) → List (List ℕ)
with_continued [] = []
with_continued (l ∷ ls) = l ∷ continued ls

-- the line of this number, counted from 1, and its continuation lines
abbrev pub excerpt : ℕ → List ℕ → List (List ℕ)
excerpt number source = with_continued (drop (number - 1) (lines_of source))
