-- Lists of statements of a program that breaks no rule: what is kept of them, and that no range
-- sets the variable of its DO statement (ANSI X3.9-1978, 11.10.5).
use Rattle.meaning.specs.declared.syntax.Tree.{Tree}
use Rattle.meaning.specs.LoopLaws.{LeaveVariables, ArmsLeaveVariables}
use Rattle.meaning.specs.Trees.{Members, Arms}
use Rattle.label_targets.specs.Kept.{AreArmsKept, IsKept, IsPartKept}

-- a list
pub record IsAllowed (t : Tree) (ms : Members) : Type 0 where
  pub kept : IsKept t ms
  pub leaves : LeaveVariables ms

-- a part of a list
pub record IsPartAllowed (t : Tree) (ms : Members) : Type 0 where
  pub kept : IsPartKept t ms
  pub leaves : LeaveVariables ms

-- arms of a block IF
pub record AreArmsAllowed (t : Tree) (arms : Arms) : Type 0 where
  pub kept : AreArmsKept t arms
  pub leaves : ArmsLeaveVariables arms
