-- Where the values of a name are kept: its dimensions, if it is an array's, the cells by its
-- subscripts, and how many cells there are (ANSI X3.9-1978, 2.12, 5.4).
use Rattle.std.specs.Prelude.{◌≡◌, ◌≤◌, ◌<◌, ◌^◌, ℕ, ℤ, List, Option}
use Rattle.meaning.specs.declared.syntax.Tree.{Tree}
use Rattle.meaning.specs.Arrays.{Dimension}
use Rattle.meaning.specs.Values.{dimensions_in}
use Rattle.expressions.specs.declared.place.ElementAddress.{ElementAddress}
use Rattle.expressions.specs.Places.{left, behind, limit}
use Rattle.storage.specs.Checked.{names_in, numbers_in, count_in}

pub record Whereabouts : Type 0 where
  pub array : Option (List Dimension)
  pub cells : List ℤ → Option ℕ
  pub count : ℕ

-- those of a name in a program
abbrev pub where_in : Tree → List ℕ → Whereabouts
where_in t n = record { array = (names_in t).arrays n; cells = numbers_in t n; count = count_in t }

-- a place leads there
pub record IsPlace (w : Whereabouts) (p : ElementAddress) : Type 0 where
  pub dimensions : left p ≡ dimensions_in w.array
  pub cells : (ss : List ℤ) → behind p ss ≡ w.cells ss
  pub limited : limit p ≤ w.count
  pub few : limit p < 2 ^ 64
