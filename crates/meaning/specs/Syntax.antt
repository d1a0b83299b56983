-- Expressions and forms as pure trees, and what a value of the Rust types stands for (ANSI
-- X3.9-1978, chapters 4 to 16).
use Rattle.std.specs.Prelude.{ℕ, Bool, List, [], ◌∷◌, map, Option, option_map}
use Rattle.meaning.specs.declared.syntax.Sign.{Sign}
use Rattle.meaning.specs.declared.syntax.Operator.{Operator}
use Rattle.meaning.specs.declared.syntax.Expr.{Expr}
use Rattle.meaning.specs.declared.syntax.Expr.TheVariants.{Number, Truth, Name, Signed', Not'}
use Rattle.meaning.specs.declared.syntax.Expr.TheVariants.{Binary', Paren', Element', Call}
use Rattle.meaning.specs.declared.syntax.Exprs.{Exprs}
use Rattle.meaning.specs.declared.syntax.Exprs.TheVariants.{Empty, More'}
use Rattle.meaning.specs.declared.syntax.Bounds.{Bounds}
use Rattle.meaning.specs.declared.syntax.Declarator.{Declarator}
use Rattle.meaning.specs.declared.syntax.Unit.{Unit as UnitOf}
use Rattle.meaning.specs.declared.syntax.Unit.TheVariants as units
use Rattle.meaning.specs.declared.syntax.Limits.{Limits}
use Rattle.meaning.specs.declared.syntax.ListItem.{ListItem}
use Rattle.meaning.specs.declared.syntax.ListItem.TheVariants as list_items
use Rattle.meaning.specs.declared.syntax.ListItems.{ListItems}
use Rattle.meaning.specs.declared.syntax.ListItems.TheVariants as lists
use Rattle.meaning.specs.declared.syntax.DataConstant.{DataConstant}
use Rattle.meaning.specs.declared.syntax.DataConstant.TheVariants as data_constants
use Rattle.meaning.specs.declared.syntax.RepeatCount.{RepeatCount}
use Rattle.meaning.specs.declared.syntax.RepeatCount.TheVariants as repeat_counts
use Rattle.meaning.specs.declared.syntax.DataValue.{DataValue}
use Rattle.meaning.specs.declared.syntax.DataSet.{DataSet}
use Rattle.meaning.specs.declared.syntax.FormatSource.{FormatSource}
use Rattle.meaning.specs.declared.syntax.FormatSource.TheVariants as sources
use Rattle.meaning.specs.declared.syntax.ControlOrder.{ControlOrder}
use Rattle.meaning.specs.declared.syntax.Control.{Control}
use Rattle.meaning.specs.declared.syntax.DataType.{DataType}
use Rattle.meaning.specs.declared.syntax.Letters.{Letters}
use Rattle.meaning.specs.declared.syntax.ImplicitPart.{ImplicitPart}
use Rattle.meaning.specs.declared.syntax.NamedConstant.{NamedConstant}
use Rattle.meaning.specs.declared.syntax.StopText.{StopText}
use Rattle.meaning.specs.declared.syntax.StopText.TheVariants as stops
use Rattle.meaning.specs.declared.syntax.Shape.{Shape}
use Rattle.meaning.specs.declared.syntax.Shape.TheVariants as shapes

mutual
  -- an expression (chapter 6): the digits of a constant, a logical constant, a name, a sign and its
  -- operand, .NOT. and its operand, an operator and its operands, an expression in parentheses, a
  -- name with subscripts (5.3) or arguments, a function reference without arguments (15.2.2)
  pub data ExprTree : Type 0 where
    number : List ℕ → ExprTree
    truth : Bool → ExprTree
    name : List ℕ → ExprTree
    signed : Sign → ExprTree → ExprTree
    negated : ExprTree → ExprTree
    binary : Operator → ExprTree → ExprTree → ExprTree
    paren : ExprTree → ExprTree
    element : List ℕ → ExprsTree → ExprTree
    call : List ℕ → ExprTree
    deriving IsSet as ExprTree-set

  -- expressions, first to last
  pub data ExprsTree : Type 0 where
    no_exprs : ExprsTree
    exprs : ExprTree → ExprsTree → ExprsTree
    deriving IsSet as ExprsTree-set

abbrev pub listed : ExprsTree → List ExprTree
listed no_exprs = []
listed (exprs e es) = e ∷ listed es

-- the unit of a WRITE statement (12.9.1): an asterisk or an expression
pub data UnitTree : Type 0 where
  star : UnitTree
  unit_number : ExprTree → UnitTree

-- the limits of a DO statement (11.10): the first and the last value of its variable, and the step,
-- if it is written
pub record LimitsTree : Type 0 where
  pub first : ExprTree
  pub last : ExprTree
  pub step : Option ExprTree

-- the bounds of a dimension (5.1.1), the lower one if it is written
pub record BoundsTree : Type 0 where
  pub lower : Option ExprTree
  pub upper : ExprTree

-- a name in a type statement (8.4.1), with the bounds of an array or none
pub record DeclaratorTree : Type 0 where
  pub name : List ℕ
  pub bounds : List BoundsTree

-- a letter in an IMPLICIT statement, or the letters from it to a last one (8.5)
pub record LettersTree : Type 0 where
  pub first_letter : ℕ
  pub last_letter : Option ℕ

-- a data type and its letters in an IMPLICIT statement
pub record ImplicitTree : Type 0 where
  pub data_type : DataType
  pub letters : List LettersTree

-- the name of a constant and its expression in a PARAMETER statement (8.6)
pub record ConstantTree : Type 0 where
  pub name : List ℕ
  pub value : ExprTree

-- what stands behind STOP (11.12): nothing, digits, or the text between apostrophes
pub data StopTree : Type 0 where
  stop_silent : StopTree
  stop_digits : List ℕ → StopTree
  stop_text : List ℕ → StopTree

mutual
  -- an item of the list of a WRITE, PRINT or DATA statement (9.1, 12.8.2): an expression, or an
  -- implied DO with its items, its variable and its limits
  pub data ListItemTree : Type 0 where
    value_item : ExprTree → ListItemTree
    loop_item : ListItemsTree → List ℕ → LimitsTree → ListItemTree

  -- items, first to last
  pub data ListItemsTree : Type 0 where
    no_items : ListItemsTree
    more_items : ListItemTree → ListItemsTree → ListItemsTree

-- a constant in a DATA statement (9.1): an integer constant with a sign or without one, a logical
-- constant, a name
pub data DataConstantTree : Type 0 where
  data_number : Option Sign → List ℕ → DataConstantTree
  data_truth : Bool → DataConstantTree
  data_name : List ℕ → DataConstantTree

-- how often a constant stands in a DATA statement: an integer constant, or a name
pub data RepeatTree : Type 0 where
  repeat_number : List ℕ → RepeatTree
  repeat_name : List ℕ → RepeatTree

-- a constant in a DATA statement, with its repeat count if it is written
pub record DataValueTree : Type 0 where
  pub repeat_count : Option RepeatTree
  pub constant : DataConstantTree

-- a list and its constants in a DATA statement, with a comma before them or none
pub record DataSetTree : Type 0 where
  pub comma : Bool
  pub list : ListItemsTree
  pub values : List DataValueTree

-- where a format stands (12.4): a label, or the text of a character constant
pub data FormatTree : Type 0 where
  format_label : List ℕ → FormatTree
  format_constant : List ℕ → FormatTree

-- what the parentheses of a WRITE statement hold (12.8.1)
pub record ControlTree : Type 0 where
  pub order : ControlOrder
  pub unit : UnitTree
  pub source : FormatTree

-- a statement: PROGRAM with its name (14.1), IMPLICIT (8.5), an assignment to a variable or an
-- element (10.1), a statement function without dummies (15.4), WRITE and PRINT with a list (12.8),
-- FORMAT with its text (13.1), DO with a label, a comma or none, a variable and limits (11.10), or
-- without a label (own), CONTINUE (11.11), INTEGER and LOGICAL with their declarators (8.4.1),
-- DIMENSION (8.1), PARAMETER (8.6), DATA with its lists and constants (9.1), GO TO (11.1), computed
-- GO TO with labels, a comma or none, and an expression (11.2), arithmetic IF with three labels
-- (11.4), logical IF with a statement (11.5), IF THEN, ELSE IF, ELSE and END IF (11.6 to 11.9),
-- STOP (11.12), END (3.5), DO WHILE with a label or none, a comma or none, and a condition (own),
-- END DO (own), IMPLICIT NONE (own)
pub data ShapeTree : Type 0 where
  assignment : List ℕ → ExprsTree → ExprTree → ShapeTree
  writing : ControlTree → ListItemsTree → ShapeTree
  printing : FormatTree → ListItemsTree → ShapeTree
  format : List ℕ → ShapeTree
  doing : Option (List ℕ) → Bool → List ℕ → LimitsTree → ShapeTree
  continuing : ShapeTree
  typing : List DeclaratorTree → ShapeTree
  ending : ShapeTree
  naming : List ℕ → ShapeTree
  implying : List ImplicitTree → ShapeTree
  logical_typing : List DeclaratorTree → ShapeTree
  dimensioning : List DeclaratorTree → ShapeTree
  parameter : List ConstantTree → ShapeTree
  initializing : List DataSetTree → ShapeTree
  definition : List ℕ → ExprTree → ShapeTree
  going : List ℕ → ShapeTree
  computed_going : List (List ℕ) → Bool → ExprTree → ShapeTree
  arithmetic_if : ExprTree → List ℕ → List ℕ → List ℕ → ShapeTree
  logical_if : ExprTree → ShapeTree → ShapeTree
  block_if : ExprTree → ShapeTree
  else_if : ExprTree → ShapeTree
  otherwise : ShapeTree
  end_if : ShapeTree
  stopping : StopTree → ShapeTree
  doing_while : Option (List ℕ) → Bool → ExprTree → ShapeTree
  end_do : ShapeTree
  implicit_none : ShapeTree

-- a statement in its place: its initial line, its label and what it says
pub record ItemTree : Type 0 where
  pub line : ℕ
  pub label : Option ℕ
  pub shape : ShapeTree

-- what the Rust values stand for
abbrev mutual
  pub expr_tree : Expr → ExprTree
  expr_tree (Number digits) = number digits.items
  expr_tree (Truth value) = truth value
  expr_tree (Name letters) = name letters.items
  expr_tree (Signed' sign p e) = signed sign (expr_tree e)
  expr_tree (Not' p e) = negated (expr_tree e)
  expr_tree (Binary' operator p a q b) = binary operator (expr_tree a) (expr_tree b)
  expr_tree (Paren' p e) = paren (expr_tree e)
  expr_tree (Element' letters p es) = element letters.items (exprs_tree es)
  expr_tree (Call letters) = call letters.items

  pub exprs_tree : Exprs → ExprsTree
  exprs_tree Empty = no_exprs
  exprs_tree (More' e p es) = exprs (expr_tree e) (exprs_tree es)

abbrev pub bounds_tree : Bounds → BoundsTree
bounds_tree b = record { lower = option_map expr_tree b.lower; upper = expr_tree b.upper }

abbrev pub declarator_tree : Declarator → DeclaratorTree
declarator_tree d = record { name = d.name.items; bounds = map bounds_tree d.bounds.items }

abbrev pub unit_tree : UnitOf → UnitTree
unit_tree units.Star = star
unit_tree (units.Number e) = unit_number (expr_tree e)

abbrev pub limits_tree : Limits → LimitsTree
limits_tree l =
    record {
      first = expr_tree l.first;
      last = expr_tree l.last;
      step = option_map expr_tree
          l.step;
    }

abbrev mutual
  pub list_item_tree : ListItem → ListItemTree
  list_item_tree (list_items.Value e) = value_item (expr_tree e)
  list_item_tree (list_items.Loop' p xs variable limits) =
      loop_item (list_items_tree xs) variable.items (limits_tree limits)

  pub list_items_tree : ListItems → ListItemsTree
  list_items_tree lists.Empty = no_items
  list_items_tree (lists.More' x p xs) = more_items (list_item_tree x) (list_items_tree xs)

abbrev pub data_constant_tree : DataConstant → DataConstantTree
data_constant_tree (data_constants.Number sign digits) = data_number sign digits.items
data_constant_tree (data_constants.Truth value) = data_truth value
data_constant_tree (data_constants.Name letters) = data_name letters.items

abbrev pub repeat_tree : RepeatCount → RepeatTree
repeat_tree (repeat_counts.Number digits) = repeat_number digits.items
repeat_tree (repeat_counts.Name letters) = repeat_name letters.items

abbrev pub data_value_tree : DataValue → DataValueTree
data_value_tree v =
    record {
      repeat_count = option_map repeat_tree v.repeat_count;
      constant = data_constant_tree
          v.constant;
    }

abbrev pub data_set_tree : DataSet → DataSetTree
data_set_tree s =
    record {
      comma = s.comma;
      list = list_items_tree s.list;
      values = map data_value_tree
          s.values.items;
    }

abbrev pub format_tree : FormatSource → FormatTree
format_tree (sources.Label label) = format_label label.items
format_tree (sources.Constant text) = format_constant text.items

abbrev pub control_tree : Control → ControlTree
control_tree c = record { order = c.order; unit = unit_tree c.unit; source = format_tree c.format }

abbrev pub letters_tree : Letters → LettersTree
letters_tree l = record { first_letter = l.first; last_letter = l.last }

abbrev pub implicit_tree : ImplicitPart → ImplicitTree
implicit_tree p = record { data_type = p.data_type; letters = map letters_tree p.letters.items }

abbrev pub constant_tree : NamedConstant → ConstantTree
constant_tree c = record { name = c.name.items; value = expr_tree c.value }

abbrev pub stop_tree : StopText → StopTree
stop_tree stops.None = stop_silent
stop_tree (stops.Digits digits) = stop_digits digits.items
stop_tree (stops.Constant text) = stop_text text.items

abbrev pub shape_tree : Shape → ShapeTree
shape_tree (shapes.Assignment target subscripts value) =
    assignment target.items (exprs_tree subscripts) (expr_tree value)
shape_tree (shapes.Write control list) = writing (control_tree control) (list_items_tree list)
shape_tree (shapes.Print source list) = printing (format_tree source) (list_items_tree list)
shape_tree (shapes.Format text) = format text.items
shape_tree (shapes.Do label comma variable limits) =
    doing (option_map (λ l. l.items) label) comma variable.items (limits_tree limits)
shape_tree shapes.Continue = continuing
shape_tree (shapes.Integer declarators) = typing (map declarator_tree declarators.items)
shape_tree shapes.End = ending
shape_tree (shapes.Program letters) = naming letters.items
shape_tree (shapes.Implicit parts) = implying (map implicit_tree parts.items)
shape_tree (shapes.Logical declarators) = logical_typing (map declarator_tree declarators.items)
shape_tree (shapes.Dimension declarators) = dimensioning (map declarator_tree declarators.items)
shape_tree (shapes.Parameter constants) = parameter (map constant_tree constants.items)
shape_tree (shapes.Data sets) = initializing (map data_set_tree sets.items)
shape_tree (shapes.Definition target value) = definition target.items (expr_tree value)
shape_tree (shapes.GoTo label) = going label.items
shape_tree (shapes.ComputedGoTo labels comma value) =
    computed_going (map (λ l. l.items) labels.items) comma (expr_tree value)
shape_tree (shapes.ArithmeticIf value negative zero positive) =
    arithmetic_if (expr_tree value) negative.items zero.items positive.items
shape_tree (shapes.LogicalIf' condition p statement) =
    logical_if (expr_tree condition) (shape_tree statement)
shape_tree (shapes.IfThen condition) = block_if (expr_tree condition)
shape_tree (shapes.ElseIf condition) = else_if (expr_tree condition)
shape_tree shapes.Else = otherwise
shape_tree shapes.EndIf = end_if
shape_tree (shapes.Stop text) = stopping (stop_tree text)
shape_tree (shapes.DoWhile label comma condition) =
    doing_while (option_map (λ l. l.items) label) comma (expr_tree condition)
shape_tree shapes.EndDo = end_do
shape_tree shapes.ImplicitNone = implicit_none
