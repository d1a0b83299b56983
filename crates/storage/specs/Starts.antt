-- The map that a program starts with, and maps that values of its cells stand for (ANSI X3.9-1978,
-- chapters 9 and 17).
use Rattle.std.specs.Prelude.{ℤ, List}
use Rattle.meaning.specs.declared.syntax.Tree.{Tree}
use Rattle.meaning.specs.Initial.{start_of}
use Rattle.meaning.specs.Maps.{Map, map_by}
use Rattle.meaning.specs.Stores.{known}
use Rattle.meaning.specs.Uses.{symbols_of}
use Rattle.array_store.specs.Whole.{world_of}
use Rattle.storage.specs.Checked.{items_in, numbers_in}

-- the map that values of the cells stand for
abbrev pub map_of : Tree → List ℤ → Map
map_of t values = map_by (numbers_in t) (known (world_of values))

abbrev pub start_in : Tree → Map
start_in t = start_of (symbols_of (items_in t)) (items_in t)
