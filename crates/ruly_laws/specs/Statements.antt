-- Statements and statement functions that codes can be made of (ANSI X3.9-1978, chapters 6, 10, 11
-- and 12, and 15.4).
use Rattle.std.specs.Prelude.{◌≡◌, ◌≤◌, ℕ, List, [], IsTrue, length, slice_get, Option, Some, None}
use Rattle.std.specs.List.{AllByRecursion}
use Rattle.meaning.specs.Arrays.{Dimension}
use Rattle.meaning.specs.Characters.{number_of}
use Rattle.meaning.specs.Scopes.{Definition}
use Rattle.meaning.specs.Spelling.{is_simple}
use Rattle.meaning.specs.Syntax.{ExprTree, name, ExprsTree, no_exprs, exprs, LimitsTree}
use Rattle.meaning.specs.Syntax.{ListItemTree, ListItemsTree, no_items, more_items, value_item}
use Rattle.meaning.specs.Syntax.{loop_item, ShapeTree, arithmetic_if, assignment, block_if}
use Rattle.meaning.specs.Syntax.{computed_going, doing, doing_while, else_if, going, logical_if}
use Rattle.meaning.specs.Syntax.{printing, writing}
use Rattle.meaning.specs.Trees.{Nested, flatten}
use Rattle.code_laws.specs.Meant.{Setting}
use Rattle.compiler.specs.Ruly.{IsRuly, IsRulyPlace}
use Rattle.rule_laws.specs.Evaluated.{in_limits, names_of, numbers_of}
use Rattle.rule_laws.specs.References.{HasCell, HasElement}
use Rattle.rule_laws.specs.Sized.{count_of}

-- ---- where expressions stand

-- those of the statements of a program unit, and that of the statement function at a place
abbrev pub setting_of : Nested → Setting
setting_of t =
    record {
      names = names_of t;
      numbers = numbers_of t;
      cells = count_of t;
      dummies =
          [];
      callable = length (names_of t).definitions;
    }

abbrev pub setting_within : Nested → ℕ → Definition → Setting
setting_within t at d =
    record {
      names = names_of t;
      numbers = numbers_of t;
      cells = count_of t;
      dummies =
          d.dummies;
      callable = at;
    }

-- ---- loops and output lists

-- a variable with a cell, and limits
pub record IsLoopCodable (s : Setting) (variable : List ℕ) (limits : LimitsTree) : Type 0 where
  pub counter : HasCell s.numbers variable []
  pub are : AllByRecursion (IsRuly s) (in_limits limits)

-- an array with cells, or another expression
abbrev pub IsNameCodable : Setting → List ℕ → Option (List Dimension) → Type 0
IsNameCodable s n (Some ds) = HasElement s.numbers n
IsNameCodable s n None = IsRuly s (name n)

abbrev pub IsValueCodable : Setting → ExprTree → Type 0
IsValueCodable s (name n) = IsNameCodable s n (s.names.arrays n)
IsValueCodable s e = IsRuly s e

abbrev mutual
  pub AreItemsCodable : Setting → ListItemsTree → Type 0
  AreItemsCodable s no_items = Unit {0}
  AreItemsCodable s (more_items x xs) = IsItemCodable s x × AreItemsCodable s xs

  pub IsItemCodable : Setting → ListItemTree → Type 0
  IsItemCodable s (value_item e) = IsValueCodable s e
  IsItemCodable s (loop_item xs variable limits) =
      IsLoopCodable s variable limits × AreItemsCodable s xs

-- ---- statements

-- an element with its value; what is no array's defines a statement function
abbrev pub IsElementCodable : Setting → List ℕ → ExprsTree → ExprTree → Option (List Dimension) →
    Type 0
IsElementCodable s n es e (Some ds) = IsRulyPlace s n es × IsRuly s e
IsElementCodable s n es e None = Unit {0}

-- a label of five digits at most
abbrev pub IsSmallLabel : List ℕ → Type 0
IsSmallLabel digits = number_of digits ≤ 99999

abbrev pub IsCodable : Setting → ShapeTree → Type 0
IsCodable s (assignment n no_exprs e) = HasCell s.numbers n [] × IsRuly s e
IsCodable s (assignment n (exprs d ds) e) = IsElementCodable s n (exprs d ds) e (s.names.arrays n)
IsCodable s (writing control list) = AreItemsCodable s list
IsCodable s (printing source list) = AreItemsCodable s list
IsCodable s (doing label comma variable limits) = IsLoopCodable s variable limits
IsCodable s (doing_while label comma e) = IsRuly s e
IsCodable s (going label) = IsSmallLabel label
IsCodable s (computed_going labels comma e) = AllByRecursion IsSmallLabel labels × IsRuly s e
IsCodable s (arithmetic_if e negative zero positive) =
    IsRuly s e × IsSmallLabel negative × IsSmallLabel zero × IsSmallLabel positive
IsCodable s (logical_if e x) = IsRuly s e × IsTrue (is_simple x) × IsCodable s x
IsCodable s (block_if e) = IsRuly s e
IsCodable s (else_if e) = IsRuly s e
IsCodable s x = Unit {0}

-- ---- whole program units

abbrev pub AreCodable : Nested → Type 0
AreCodable t = AllByRecursion (λ x. IsCodable (setting_of t) x.shape) (flatten t)

abbrev pub AreFunctionsCodable : Nested → Type 0
AreFunctionsCodable t =
    (at : ℕ) (d : Definition) → slice_get (names_of t).definitions at ≡ Some d →
    IsRuly (setting_within t at d) d.body
