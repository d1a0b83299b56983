-- What is known of an action, whatever statement it is that of.
use Rattle.meaning.specs.declared.syntax.Tree.{Tree}
use Rattle.meaning.specs.Syntax.{ShapeTree}
use Rattle.program.specs.declared.action.Action.{Action}
use Rattle.program.specs.Acts.{Acts}

-- it is that of a statement
pub record IsOfStatement (t : Tree) (a : Action) : Type 0 where
  pub statement : ShapeTree
  pub acts : Acts t a statement
