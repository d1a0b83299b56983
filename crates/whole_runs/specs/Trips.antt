-- DO statements without output in a program that breaks no rule, and their trips over the cells of
-- a whole store (ANSI X3.9-1978, 11.10).
use Rattle.std.specs.Prelude.{ℕ, ℤ, IsTrue, List}
use Rattle.meaning.specs.declared.ending.Outcome.{Outcome}
use Rattle.meaning.specs.declared.syntax.Loop.{Loop, out-Loop}
use Rattle.meaning.specs.declared.syntax.Tree.{Tree}
use Rattle.meaning.specs.Execution.{Ran}
use Rattle.meaning.specs.LoopLaws.{NeverSets}
use Rattle.meaning.specs.Maps.{Map}
use Rattle.meaning.specs.Syntax.{shape_tree}
use Rattle.meaning.specs.Trees.{flat, item_tree, members_tree}
use Rattle.label_targets.specs.Kept.{IsKept}
use Rattle.label_targets.specs.Quiet.{WritesNothing}
use Rattle.storage.specs.Checked.{items_in}
use Rattle.storage.specs.Starts.{map_of}
use Rattle.program.specs.Asked.{is_doing}
use Rattle.program.specs.Programs.{IsStatement}
use Rattle.evaluator.specs.Known.{AreStatements}
use Rattle.evaluator.specs.Over.{trips_as}
use Rattle.evaluator.specs.Quiet.{variable_of}
use Rattle.evaluator.specs.Statements.{Leaves}

-- a DO statement of the program whose range writes nothing and never sets its variable
pub record IsQuietLoop (t : Tree) (l : Loop) : Type 0 where
  pub doing : IsTrue (is_doing (shape_tree (out-Loop l).head.form.shape.value))
  pub head : IsStatement t (item_tree (out-Loop l).head)
  pub named : AreStatements t (flat (members_tree (out-Loop l).range.items))
  pub kept : IsKept t (members_tree (out-Loop l).range.items)
  pub quiet : WritesNothing (members_tree (out-Loop l).range.items)
  pub unset : NeverSets (variable_of (shape_tree (out-Loop l).head.form.shape.value))
      (members_tree (out-Loop l).range.items)

-- so many trips of a DO statement of the program
abbrev pub trips_in : Tree → Loop → ℤ → ℤ → ℕ → Map → ℕ → Ran
trips_in t l first step n m u =
    trips_as (items_in t) l (variable_of (shape_tree (out-Loop l).head.form.shape.value)) first step
    n m u

-- a run without output over the cells of a whole store
abbrev pub LeavesIn : Tree → List ℤ → List ℤ → (Map → ℕ → Ran) → ℕ → ℕ → Outcome → Type 0
LeavesIn t old new does given left o =
    Leaves (does (map_of t old) given) given (map_of t new) left o
