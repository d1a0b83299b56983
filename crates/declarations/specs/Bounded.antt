-- Bounds, and those that are no INTEGER constants by what a table has.
use Rattle.std.specs.Prelude.{Bool, List, map, flat_map}
use Rattle.meaning.specs.declared.syntax.Bounds.{Bounds}
use Rattle.meaning.specs.declared.syntax.Declarator.{Declarator}
use Rattle.meaning.specs.NumberRules.{is_no_integer, lacks_bound}
use Rattle.meaning.specs.Syntax.{BoundsTree, ExprTree, bounds_tree, declarator_tree}
use Rattle.meaning.specs.Typing.{in_bounds}
use Rattle.declarations.specs.declared.known.Table.{Table}
use Rattle.declarations.specs.Tables.{known_at, types_in}

-- the bounds of a dimension, and of an array
abbrev pub exprs_of : BoundsTree → List ExprTree
exprs_of b = map (λ x. x.expr) (in_bounds b)

abbrev pub exprs_in_bounds : Bounds → List ExprTree
exprs_in_bounds b = exprs_of (bounds_tree b)

abbrev pub exprs_in_declarator : Declarator → List ExprTree
exprs_in_declarator d = flat_map exprs_of (declarator_tree d).bounds

-- one of them is no INTEGER constant
abbrev pub is_no_integer_at : Table → ExprTree → Bool
is_no_integer_at t = is_no_integer (types_in t) (known_at t)

abbrev pub lacks_bound_at : Table → Declarator → Bool
lacks_bound_at t d = lacks_bound (types_in t) (known_at t) (declarator_tree d)
