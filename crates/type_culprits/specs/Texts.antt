-- What is told of an expression of the wrong type, as text.
use Rattle.std.specs.Prelude.{ℕ, ◌++◌, List, codes}
use Rattle.meaning.specs.declared.syntax.DataType.{DataType}
use Rattle.meaning.specs.declared.syntax.DataType.TheVariants as types
use Rattle.meaning.specs.declared.syntax.Operator.{Operator}
use Rattle.meaning.specs.declared.syntax.Operator.TheVariants as operators
use Rattle.meaning.specs.declared.syntax.Sign.{Sign}
use Rattle.meaning.specs.declared.syntax.Sign.TheVariants as signs
use Rattle.meaning.specs.Syntax.{ExprTree, number, truth, name, signed, negated, binary, paren}
use Rattle.meaning.specs.Syntax.{element, call}
use Rattle.type_culprits.specs.Words.{truth_word, word_in}
use Rattle.type_culprits.specs.declared.culprit.Place.{Place}
use Rattle.type_culprits.specs.declared.culprit.Place.TheVariants as places
use Rattle.type_culprits.specs.Told.{Asker, Told, between, before, named, negation, at_place}

-- the first constant or name in the expression
abbrev pub word_of : Told → List ℕ
word_of k = word_in k.expr

-- how operators and signs are written
abbrev pub operator_text : Operator → List ℕ
operator_text operators.Power = codes "**"
operator_text operators.Multiply = codes "*"
operator_text operators.Divide = codes "/"
operator_text operators.Add = codes "+"
operator_text operators.Subtract = codes "-"
operator_text operators.Less = codes ".LT."
operator_text operators.LessOrEqual = codes ".LE."
operator_text operators.Equal = codes ".EQ."
operator_text operators.NotEqual = codes ".NE."
operator_text operators.GreaterOrEqual = codes ".GE."
operator_text operators.Greater = codes ".GT."
operator_text operators.And = codes ".AND."
operator_text operators.Or = codes ".OR."
operator_text operators.Equivalent = codes ".EQV."
operator_text operators.NotEquivalent = codes ".NEQV."

abbrev pub sign_text : Sign → List ℕ
sign_text signs.Plus = codes "+"
sign_text signs.Minus = codes "-"

-- a constant or a name, or what the last operator gives
abbrev pub result_text : List ℕ → List ℕ
result_text operator = codes "the result of " ++ operator

abbrev pub expr_text : ExprTree → List ℕ
expr_text (number digits) = digits
expr_text (truth value) = truth_word value
expr_text (name letters) = letters
expr_text (signed sign e) = result_text (sign_text sign)
expr_text (negated e) = result_text (codes ".NOT.")
expr_text (binary operator a b) = result_text (operator_text operator)
expr_text (paren e) = expr_text e
expr_text (element letters es) = letters
expr_text (call letters) = letters

-- the type that it has, by the one that is wanted
abbrev pub found_text : DataType → List ℕ
found_text types.Integer = codes " is LOGICAL, and "
found_text types.Logical = codes " is INTEGER, and "

abbrev pub place_text : Place → List ℕ
place_text places.Condition = codes "a condition"
place_text places.Limit = codes "a DO limit"
place_text places.Bound = codes "a bound"
place_text places.Constant = codes "the constant"
place_text places.ComputedGoTo = codes "a computed GO TO"
place_text places.ArithmeticIf = codes "an arithmetic IF"
place_text places.Data = codes "DATA"

abbrev pub asker_text : Asker → List ℕ
asker_text (between operator) = operator_text operator
asker_text negation = codes ".NOT."
asker_text (before sign) = sign_text sign
asker_text (named letters) = letters
asker_text (at_place place) = place_text place

abbrev pub wanted_text : DataType → List ℕ
wanted_text types.Integer = codes " wants INTEGER"
wanted_text types.Logical = codes " wants LOGICAL"

abbrev pub told_text : Told → List ℕ
told_text k = expr_text k.expr ++ found_text k.wanted ++ asker_text k.asker ++ wanted_text k.wanted
