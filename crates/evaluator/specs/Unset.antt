-- DO statements whose ranges leave their variables (ANSI X3.9-1978, 11.10.5).
use Rattle.std.specs.List.{AllByRecursion}
use Rattle.meaning.specs.declared.syntax.Loop.{Loop, out-Loop}
use Rattle.meaning.specs.LoopLaws.{NeverSets}
use Rattle.meaning.specs.Surroundings.{counted_by}
use Rattle.meaning.specs.Syntax.{shape_tree}
use Rattle.meaning.specs.Trees.{members_tree}

-- no statement of its range sets its variable
abbrev pub LeavesItsVariable : Loop → Type 0
LeavesItsVariable l =
    AllByRecursion (λ v. NeverSets v (members_tree (out-Loop l).range.items))
    (counted_by (shape_tree (out-Loop l).head.form.shape.value))
