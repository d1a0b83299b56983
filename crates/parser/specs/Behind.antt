-- What stands behind a part that is read already: the readers of several parts, from the second
-- part on. Each is what its definition says behind the first part, so that the code can read the
-- rest before it puts the parts together.
use Rattle.std.specs.Prelude.{suc, Bool, List, [], ◌∷◌, length, Option, Some, None, codes}
use Rattle.meaning.specs.declared.syntax.ControlOrder.{ControlOrder}
use Rattle.meaning.specs.declared.syntax.ControlOrder.TheVariants.{UnitFirst}
use Rattle.meaning.specs.Syntax.{ExprTree, ExprsTree, LimitsTree, ListItemTree, loop_item}
use Rattle.meaning.specs.Syntax.{ListItemsTree, UnitTree, FormatTree, ControlTree, DataValueTree}
use Rattle.meaning.specs.Syntax.{DataSetTree, ShapeTree, assignment, writing, arithmetic_if}
use Rattle.meaning.specs.Reading.{Text, Reader, ◌>>=◌, either, after, at_end, name_at, label_at}
use Rattle.meaning.specs.Reading.{whole_expression_at, value_of, limits_at, source_at, list_of}
use Rattle.meaning.specs.Reading.{separated_at, data_value_at}

-- limits by their parts
abbrev pub limits_with : ExprTree → ExprTree → Option ExprTree → LimitsTree
limits_with a b step = record { first = a; last = b; step = step }

-- a unit and a format, in an order
abbrev pub control_with : ControlOrder → UnitTree → FormatTree → ControlTree
control_with order unit source = record { order = order; unit = unit; source = source }

-- a list and its constants, with a comma before them or none
abbrev pub set_with : Bool → ListItemsTree → List DataValueTree → DataSetTree
set_with comma list values = record { comma = comma; list = list; values = values }

-- behind the first two limits
unfoldable pub step_behind : ExprTree → ExprTree → Reader LimitsTree
unfolding ◌>>=◌ either
step_behind a b t =
    either (after (44 ∷ []) t)
    (Some (limits_with a b None, t)) (λ rest. whole_expression_at rest >>=
    λ e. Some (limits_with a b (Some e.0), e.1))

-- behind the first limit
unfoldable pub limits_behind : ExprTree → Reader LimitsTree
unfolding ◌>>=◌
limits_behind a t = do
  rest ← after (44 ∷ []) t
  last ← whole_expression_at rest
  step_behind a last.0 last.1

-- behind the items of an implied DO
unfoldable pub loop_behind : ListItemsTree → Reader ListItemTree
unfolding ◌>>=◌
loop_behind xs t = do
  rest ← after (44 ∷ []) t
  v ← name_at rest
  behind ← after (61 ∷ []) v.1
  limits ← limits_at behind
  end ← after (41 ∷ []) limits.1
  Some (loop_item xs v.0 limits.0, end)

-- behind the target of an assignment
unfoldable pub target_behind : Text → ExprsTree → Text → Option ShapeTree
unfolding ◌>>=◌
target_behind target es t = do
  rest ← after (61 ∷ []) t
  e ← value_of rest
  Some (assignment target es e)

-- behind a unit that has its keyword
unfoldable pub unit_behind : UnitTree → Reader ControlTree
unfolding ◌>>=◌
unit_behind u t = do
  rest ← after (codes ",FMT=") t
  f ← source_at rest
  Some (control_with UnitFirst u f.0, f.1)

-- behind the unit and the format of a WRITE statement
unfoldable pub control_behind : ControlTree → Text → Option ShapeTree
unfolding ◌>>=◌
control_behind c t = do
  rest ← after (41 ∷ []) t
  xs ← list_of rest
  Some (writing c xs)

-- behind the list of a DATA statement
unfoldable pub data_list_behind : Bool → ListItemsTree → Reader DataSetTree
unfolding ◌>>=◌
data_list_behind comma xs t = do
  rest ← after (codes "/") t
  vs ← separated_at data_value_at (suc (length rest)) rest
  behind ← after (codes "/") vs.1
  Some (set_with comma xs vs.0, behind)

-- behind two labels of an arithmetic IF
unfoldable pub last_label_behind : ExprTree → Text → Text → Text → Option ShapeTree
unfolding ◌>>=◌
last_label_behind e n z t = do
  p ← label_at t
  at_end (arithmetic_if e n z p.0, p.1)

-- behind the parenthesis of an arithmetic IF
unfoldable pub branches_behind : ExprTree → Text → Option ShapeTree
unfolding ◌>>=◌
branches_behind e t = do
  n ← label_at t
  rest ← after (44 ∷ []) n.1
  z ← label_at rest
  behind ← after (44 ∷ []) z.1
  last_label_behind e n.0 z.0 behind
