-- Items in a row, as the code has them before it puts them together.
use Rattle.std.specs.Prelude.{List, [], ◌∷◌}
use Rattle.meaning.specs.Syntax.{ListItemTree, ListItemsTree, more_items}

-- items before others
unfoldable pub items_before : List ListItemTree → ListItemsTree → ListItemsTree
items_before [] others = others
items_before (x ∷ xs) others = more_items x (items_before xs others)
