-- DO statements of a program that breaks no rule, whose ranges write nothing where the program has
-- them for such.
use Rattle.std.specs.Prelude.{◌≡◌, false}
use Rattle.meaning.specs.declared.syntax.Loop.{Loop, out-Loop}
use Rattle.meaning.specs.declared.syntax.Tree.{Tree}
use Rattle.meaning.specs.Trees.{flat, item_tree, members_tree}
use Rattle.label_targets.specs.Output.{has_output_in}
use Rattle.label_targets.specs.Quiet.{WritesNothing}
use Rattle.program.specs.Programs.{IsStatement}
use Rattle.evaluator.specs.Known.{AreStatements}
use Rattle.evaluator.specs.Unset.{LeavesItsVariable}
use Rattle.program_runs.specs.Allowed.{IsAllowed}

abbrev pub IsQuietUnlessLoud : Tree → Loop → Type 0
IsQuietUnlessLoud t l =
    has_output_in t (out-Loop l).head.line ≡ false →
    WritesNothing (members_tree (out-Loop l).range.items)

-- a DO statement of the program with its range, which leaves its variable
pub record IsLoopOf (t : Tree) (l : Loop) : Type 0 where
  pub head : IsStatement t (item_tree (out-Loop l).head)
  pub named : AreStatements t (flat (members_tree (out-Loop l).range.items))
  pub allowed : IsAllowed t (members_tree (out-Loop l).range.items)
  pub quiet : IsQuietUnlessLoud t l
  pub leaves : LeavesItsVariable l
