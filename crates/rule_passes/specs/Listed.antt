-- What stands behind references: the statements of a list, and the name that a statement sets.
use Rattle.std.specs.Prelude.{ℕ, List, [], ◌∷◌, Option, Some, None}
use Rattle.std.specs.Borrow.{Bor}
use Rattle.meaning.specs.declared.syntax.Item.{Item}
use Rattle.meaning.specs.Syntax.{ItemTree}
use Rattle.meaning.specs.Trees.{item_tree}

-- the tree of a statement
abbrev pub tree_at : Bor Item → ItemTree
tree_at m = item_tree m.now

-- a name, where there is one
abbrev pub name_at : Option (Bor (List ℕ)) → List (List ℕ)
name_at None = []
name_at (Some n) = n.now ∷ []
