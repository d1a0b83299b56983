-- Statements behind references.
use Rattle.std.specs.Prelude.{List, map}
use Rattle.std.specs.Borrow.{Bor}
use Rattle.meaning.specs.declared.syntax.Item.{Item}
use Rattle.meaning.specs.Syntax.{ItemTree}
use Rattle.meaning.specs.Trees.{item_tree}

-- the tree of a statement
abbrev pub tree_at : Bor Item → ItemTree
tree_at m = item_tree m.now

abbrev pub trees_at : List (Bor Item) → List ItemTree
trees_at ms = map tree_at ms
