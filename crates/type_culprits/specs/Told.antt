-- What is told of an expression of the wrong type.
use Rattle.std.specs.Prelude.{ℕ, List, Option, option_map}
use Rattle.meaning.specs.declared.syntax.DataType.{DataType}
use Rattle.meaning.specs.declared.syntax.Operator.{Operator}
use Rattle.meaning.specs.declared.syntax.Sign.{Sign}
use Rattle.meaning.specs.Syntax.{ExprTree, expr_tree}
use Rattle.type_culprits.specs.declared.culprit.Asker.{Asker as AskerAt}
use Rattle.type_culprits.specs.declared.culprit.Asker.TheVariants as askers
use Rattle.type_culprits.specs.declared.culprit.Place.{Place}
use Rattle.type_culprits.specs.declared.culprit.TypeCulprit.{TypeCulprit}

-- what asks for a type: an operator of its operands, .NOT., a sign, a name of what stands in its
-- parentheses or gives it a value, a place in the statement
pub data Asker : Type 0 where
  between : Operator → Asker
  negation : Asker
  before : Sign → Asker
  named : List ℕ → Asker
  at_place : Place → Asker

-- the expression, the type that is wanted, and what wants it
pub record Told : Type 0 where
  pub expr : ExprTree
  pub wanted : DataType
  pub asker : Asker

-- what values of the Rust types stand for
abbrev pub asker_at : AskerAt → Asker
asker_at (askers.Between operator) = between operator
asker_at askers.Not = negation
asker_at (askers.Before sign) = before sign
asker_at (askers.Named name) = named name.now
asker_at (askers.At place) = at_place place

abbrev pub told_at : TypeCulprit → Told
told_at c =
    record { expr = expr_tree c.expression.now; wanted = c.wanted; asker = asker_at c.asker }

-- what is told, if anything is
abbrev pub tell : Option TypeCulprit → Option Told
tell c = option_map told_at c
