-- What a statement stands in: the DO statements around it, and the lists of statements (ANSI
-- X3.9-1978, 11.10 and 3.5).
use Rattle.std.specs.Prelude.{ℕ, Bool, List, [], ◌∷◌, ◌++◌}
use Rattle.meaning.specs.declared.refusal.Broken.{Broken}
use Rattle.meaning.specs.declared.refusal.Rule.{Rule}
use Rattle.meaning.specs.Statements.{broken_if}
use Rattle.meaning.specs.Syntax.{ListItemsTree, no_items, more_items, value_item, loop_item}
use Rattle.meaning.specs.Syntax.{ShapeTree, writing, printing, doing, logical_if, ItemTree}
use Rattle.meaning.specs.Trees.{Members, none, plain, loop, block, Arms, no_arms, arm}

-- the variables of the DO statements around it, and the statements of its list and of those around
-- it
pub record Around : Type 0 where
  pub variables : List (List ℕ)
  pub items : List ItemTree

-- the variables of a DO statement and of implied DOs
abbrev pub loop_variables : ListItemsTree → List (List ℕ)
loop_variables no_items = []
loop_variables (more_items (value_item e) xs) = loop_variables xs
loop_variables (more_items (loop_item ys variable limits) xs) =
    variable ∷ (loop_variables ys ++ loop_variables xs)

abbrev pub controlled_by : ShapeTree → List (List ℕ)
controlled_by (doing label comma variable limits) = variable ∷ []
controlled_by (writing control list) = loop_variables list
controlled_by (printing source list) = loop_variables list
controlled_by (logical_if e statement) = controlled_by statement
controlled_by s = []

-- the statement at which a block IF begins
abbrev pub head_of : Arms → List ItemTree
head_of no_arms = []
head_of (arm x ms arms) = x ∷ []

-- the statements that stand in a list directly; END IF is the point behind its block IF
abbrev pub own_items : Members → List ItemTree
own_items none = []
own_items (plain x ms) = x ∷ own_items ms
own_items (loop x range ms) = x ∷ own_items ms
own_items (block arms x ms) = head_of arms ++ (x ∷ own_items ms)

-- the variable that a DO statement counts with
abbrev pub counted_by : ShapeTree → List (List ℕ)
counted_by (doing label comma variable limits) = variable ∷ []
counted_by s = []

-- the body of a program unit, a range, an arm
abbrev pub in_body : Members → Around
in_body ms = record { variables = []; items = own_items ms }

abbrev pub in_range : Around → ItemTree → Members → Around
in_range a x range =
    record { variables = counted_by x.shape ++ a.variables; items = own_items range ++ a.items }

abbrev pub in_arm : Around → Members → Around
in_arm a ms = record { variables = a.variables; items = own_items ms ++ a.items }

-- a rule that a statement breaks in what it stands in, told at its line
unfoldable mutual
  pub told_in : (Around → ItemTree → Bool) → Rule → Around → Members → List Broken
  told_in breaks rule a none = []
  told_in breaks rule a (plain x ms) =
      broken_if (breaks a x) x.line rule ++ told_in breaks rule a ms
  told_in breaks rule a (loop x range ms) =
      broken_if (breaks a x) x.line rule
      ++ (told_in breaks rule (in_range a x range) range ++ told_in breaks rule a ms)
  told_in breaks rule a (block arms x ms) =
      told_in_arms breaks rule a arms
      ++ (broken_if (breaks a x) x.line rule ++ told_in breaks rule a ms)

  pub told_in_arms : (Around → ItemTree → Bool) → Rule → Around → Arms → List Broken
  told_in_arms breaks rule a no_arms = []
  told_in_arms breaks rule a (arm x ms arms) =
      broken_if (breaks a x) x.line rule
      ++ (told_in breaks rule (in_arm a ms) ms ++ told_in_arms breaks rule a arms)
