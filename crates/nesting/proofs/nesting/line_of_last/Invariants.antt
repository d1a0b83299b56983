use Rattle.std.proofs.Common.{◌≡◌, map, take}
use Rattle.meaning.specs.Nesting.{last_line}
use Rattle.meaning.specs.Trees.{item_tree}
use Rattle.nesting.proofs.nesting.line_of_last.Given as goal

abbrev pub invariant-loop-item : goal.invariant-loop-item
invariant-loop-item l = l.line ≡ last_line (map item_tree (take l.item-index l.items))
