-- The first of some things that stands at a line, and those before it.
use Rattle.std.specs.Prelude.{ℕ, ◌==◌, List, [], ◌∷◌, ◌++◌, if◌then◌else◌, Option, None}
use Rattle.meaning.specs.Syntax.{ItemTree}
use Rattle.list_culprits.specs.Seats.{Seat}

-- what is asked of it; each statement of a source has a line of its own
unfoldable pub at_line : {A X : Type 0} → (X → ℕ) → (List X → X → Option A) → ℕ → List X → List X →
    Option A
at_line line_of ask line before [] = None
at_line line_of ask line before (x ∷ xs) =
    if line_of x == line then ask before x else at_line line_of ask line (before ++ x ∷ []) xs

abbrev pub item_line : ItemTree → ℕ
item_line x = x.line

abbrev pub seat_line : Seat → ℕ
seat_line z = z.item.line
