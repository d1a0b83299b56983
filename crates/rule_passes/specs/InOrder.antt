-- Statements in the order of their lines (ANSI X3.9-1978, 3.5).
use Rattle.std.specs.Prelude.{◌<◌, ◌≤◌, ℕ, List, length, map, get_or}
use Rattle.meaning.specs.Syntax.{ItemTree}

abbrev pub line_at : List ItemTree → ℕ → ℕ
line_at items i = get_or (map (λ x. x.line) items) i 0

-- none stands at a line in front of an earlier one's
abbrev pub AreInOrder : List ItemTree → Type 0
AreInOrder items = (i j : ℕ) → i ≤ j → j < length items → line_at items i ≤ line_at items j
