-- What a checked program is to those who run it: its tree, what its names stand for, and their
-- cells.
use Rattle.std.specs.Prelude.{ℕ, List}
use Rattle.meaning.specs.declared.syntax.Tree.{Tree}
use Rattle.meaning.specs.Syntax.{ItemTree}
use Rattle.meaning.specs.Arrays.{Named, cell_of, cells_of}
use Rattle.meaning.specs.Maps.{CellNumbers}
use Rattle.meaning.specs.Scopes.{arrays_of, definitions_of, known_of}
use Rattle.meaning.specs.Trees.{Nested, nested, flatten}
use Rattle.meaning.specs.Types.{types_of}
use Rattle.expressions.specs.Glossaries.{Glossary}
use Rattle.storage.specs.Numbered.{named_of}

-- its program unit
abbrev pub tree_of : Tree → Nested
tree_of t = nested t

-- its statements in order
abbrev pub items_in : Tree → List ItemTree
items_in t = flatten (nested t)

-- its variables and then its arrays, each in the order of their first appearance, with their
-- dimensions
abbrev pub named_of_program : Tree → List Named
named_of_program t = named_of (items_in t)

-- the cell of each of them, and how many there are
abbrev pub numbers_in : Tree → CellNumbers
numbers_in t = cell_of (named_of_program t)

abbrev pub count_in : Tree → ℕ
count_in t = cells_of (named_of_program t)

-- types, arrays, constants and statement functions
abbrev pub glossary_of : List ItemTree → Glossary
glossary_of all = record {
  types = types_of all;
  arrays = arrays_of all;
  known = known_of (types_of all) all;
  definitions = definitions_of (arrays_of all) all;
}

abbrev pub names_in : Tree → Glossary
names_in t = glossary_of (items_in t)
