-- Lists of statements without output (ANSI X3.9-1978, 12.8).
use Rattle.std.specs.Prelude.{Bool, true, ◌&&◌, not, IsTrue, Option, Some, None, is_some}
use Rattle.std.specs.Borrow.{Bor}
use Rattle.meaning.specs.declared.syntax.FormatSource.{FormatSource}
use Rattle.meaning.specs.declared.syntax.ListItems.{ListItems}
use Rattle.meaning.specs.Syntax.{ShapeTree, FormatTree, ListItemsTree, writing, printing}
use Rattle.meaning.specs.Syntax.{logical_if, format_tree, list_items_tree}
use Rattle.meaning.specs.Trees.{Members, none, plain, loop, block, Arms, no_arms, arm}

-- the format and the list of a WRITE or PRINT statement
abbrev pub output_in : ShapeTree → Option (FormatTree × ListItemsTree)
output_in (writing control list) = Some (control.source, list)
output_in (printing source list) = Some (source, list)
output_in s = None

-- the statement under a logical IF, and another one itself
abbrev pub under : ShapeTree → ShapeTree
under (logical_if e s) = s
under s = s

abbrev pub writes : ShapeTree → Bool
writes s = is_some (output_in s)

-- a WRITE or PRINT statement, also under a logical IF
abbrev pub is_writing : ShapeTree → Bool
is_writing s = writes (under s)

-- no WRITE or PRINT statement among the members, in their ranges and in their arms
abbrev mutual
  pub is_quiet : Members → Bool
  is_quiet none = true
  is_quiet (plain x ms) = not (is_writing x.shape) && is_quiet ms
  is_quiet (loop x range ms) = is_quiet range && is_quiet ms
  is_quiet (block arms x ms) = are_quiet arms && is_quiet ms

  pub are_quiet : Arms → Bool
  are_quiet no_arms = true
  are_quiet (arm x body arms) = is_quiet body && are_quiet arms

pub record WritesNothing (ms : Members) : Type 0 where
  pub is : IsTrue (is_quiet ms)

pub record ArmsWriteNothing (arms : Arms) : Type 0 where
  pub is : IsTrue (are_quiet arms)

-- a WRITE or PRINT statement with this format and this list
abbrev pub output_tree : Bor FormatSource × Bor ListItems → FormatTree × ListItemsTree
output_tree w = (format_tree w.0.now, list_items_tree w.1.now)
