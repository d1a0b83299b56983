-- What is told of constant expressions by the constants of a table or a scope.
use Rattle.std.specs.Prelude.{◌≡◌, List, map, Option}
use Rattle.std.specs.Option.{option_or}
use Rattle.meaning.specs.declared.syntax.Declarator.{Declarator}
use Rattle.meaning.specs.declared.syntax.NamedConstant.{NamedConstant}
use Rattle.meaning.specs.Scopes.{constants_in, declarators_in}
use Rattle.meaning.specs.Syntax.{ExprTree, ItemTree, ShapeTree, constant_tree, declarator_tree}
use Rattle.symbols.specs.declared.names.Symbols.{Symbols as Kept}
use Rattle.declarations.specs.declared.known.Scope.{Scope}
use Rattle.declarations.specs.declared.known.Table.{Table}
use Rattle.declarations.specs.Tables.{IsBehind, known_at, scope_known, scope_types, types_in}
use Rattle.number_culprits.specs.Numbers.{bad_bound, bad_constant, first_none, none_in}
use Rattle.number_culprits.specs.Told.{Told}

abbrev pub none_at : Scope → Told → ExprTree → Option Told
none_at s fault e = none_in (scope_types s) (scope_known s) fault e

abbrev pub first_none_at : Scope → Told → List ExprTree → Option Told
first_none_at s fault es = first_none (scope_types s) (scope_known s) fault es

abbrev pub bad_constant_at : Scope → List NamedConstant → Option Told
bad_constant_at s cs = bad_constant (scope_types s) (scope_known s) (map constant_tree cs)

abbrev pub defined_at : Table → ShapeTree → Option Told
defined_at t s = bad_constant (types_in t) (known_at t) (constants_in s)

abbrev pub bad_bound_at : Scope → List Declarator → Option Told
bad_bound_at s ds = bad_bound (scope_types s) (scope_known s) (map declarator_tree ds)

abbrev pub bad_constants_at : Table → ShapeTree → Option Told
bad_constants_at t s =
    option_or (defined_at t s) (bad_bound (types_in t) (known_at t) (declarators_in s))

-- the table is that behind statements
pub record IsTableBehind (r : Kept) (before : List ItemTree) (t : Table) : Type 0 where
  pub same : t.symbols.now ≡ r
  pub behind : IsBehind t before
