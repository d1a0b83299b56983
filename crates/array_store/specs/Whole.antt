-- What a store that holds the value of each cell is among stores.
use Rattle.std.specs.Prelude.{◌≡◌, ◌+◌, ◌-◌, ◌&&◌, if◌then◌else◌, nat_le, nat_lt, ℕ, ℤ, pos, true}
use Rattle.std.specs.Prelude.{false, List, Option, length, slice_get}
use Rattle.meaning.specs.Stores.{World}

-- each cell counts as written, so no cell is exposed, and what it stands on plays no part
abbrev pub world_of : List ℤ → World
world_of values =
    record {
      cells = length values;
      base = λ c. pos 0;
      exposed = λ c. false;
      written = slice_get
          values;
      lost = false;
      sure = true;
    }

-- what a cell has where values were put into consecutive cells, from one on
abbrev pub put_at : ℕ → List ℤ → List ℤ → ℕ → Option ℤ
put_at from values old c =
    if nat_le from c && nat_lt c (from + length values)
    then slice_get values (c - from)
    else slice_get old c

abbrev pub ArePut : ℕ → List ℤ → List ℤ → List ℤ → Type 0
ArePut from values old new = (c : ℕ) → slice_get new c ≡ put_at from values old c
