-- Trees of expressions are a set: an equation between two has one proof at most.
use denote.Struct.Props as logic
use Rattle.std.specs.Prelude.{ℕ, Bool, List}
use Rattle.meaning.specs.declared.syntax.Sign.{Sign}
use Rattle.meaning.specs.declared.syntax.Operator.{Operator}
use Rattle.meaning.specs.Syntax.{ExprTree, ExprTree-set}
use Rattle.meaning.specs.Scopes.{Definition}

bytes_set : IsSet (List ℕ)
bytes_set = hlevel logic.props

sign_set : IsSet Sign
sign_set = hlevel logic.props

operator_set : IsSet Operator
operator_set = hlevel logic.props

bool_set : IsSet Bool
bool_set = hlevel logic.props

pub tree_set : IsSet ExprTree
tree_set = hlevel (bytes_set, sign_set, operator_set, bool_set, ExprTree-set)

pub definition_set : IsSet Definition
definition_set = hlevel (logic.props, tree_set)

pub definitions_set : IsSet (List Definition)
definitions_set = hlevel (logic.props, definition_set)
