-- Constant expressions where they have to stand, by the constants of a table or a scope.
use Rattle.std.specs.Prelude.{Bool, List, map}
use Rattle.meaning.specs.declared.syntax.Declarator.{Declarator}
use Rattle.meaning.specs.declared.syntax.NamedConstant.{NamedConstant}
use Rattle.meaning.specs.declared.syntax.Shape.{Shape}
use Rattle.meaning.specs.NumberRules.{has_bad_bound, is_bad_constant, is_no_constant}
use Rattle.meaning.specs.Scopes.{constants_in}
use Rattle.meaning.specs.Syntax.{ExprTree, constant_tree, declarator_tree, shape_tree}
use Rattle.declarations.specs.declared.known.Scope.{Scope}
use Rattle.declarations.specs.declared.known.Table.{Table}
use Rattle.declarations.specs.Tables.{known_at, scope_known, scope_types, types_in}

-- one of the constants of a PARAMETER statement is none
abbrev pub are_bad_at : Scope → List NamedConstant → Bool
are_bad_at s cs = is_bad_constant (scope_types s) (scope_known s) (map constant_tree cs)

abbrev pub defines_bad_at : Table → Shape → Bool
defines_bad_at t s = is_bad_constant (types_in t) (known_at t) (constants_in (shape_tree s))

-- one of the bounds is no constant
abbrev pub is_bad_at : Table → ExprTree → Bool
is_bad_at t = is_no_constant (types_in t) (known_at t)

abbrev pub have_bad_bound_at : Table → List Declarator → Bool
have_bad_bound_at t ds = has_bad_bound (types_in t) (known_at t) (map declarator_tree ds)
