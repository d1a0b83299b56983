-- The places that subscripts in DATA statements lead to.
use Rattle.std.specs.Prelude.{ℕ, ℤ, List, map, Option}
use Rattle.meaning.specs.declared.syntax.Expr.{Expr}
use Rattle.meaning.specs.declared.syntax.Exprs.{Exprs}
use Rattle.meaning.specs.Arrays.{Dimension, place}
use Rattle.meaning.specs.Syntax.{ExprsTree, expr_tree, exprs_tree}
use Rattle.meaning.specs.Types.{Types}
use Rattle.meaning.specs.Values.{Known}
use Rattle.meaning.specs.Initial.{and_also, known_subscripts, known_value}
use Rattle.expressions.specs.declared.dimension.Dimension.{Dimension as Sides}
use Rattle.expressions.specs.Dimensions.{dimension}
use Rattle.declarations.specs.declared.known.Scope.{Scope}
use Rattle.declarations.specs.Tables.{scope_known, scope_types}

-- the place, where the subscripts are known and within their bounds
abbrev pub place_known : Types → Known → List Dimension → ExprsTree → Option ℕ
place_known types known ds es = and_also (known_subscripts types known ds es) (place ds)

-- by what is known in a scope: the value of an expression, and the place of an element
abbrev pub value_in : Scope → Expr → Option ℤ
value_in s e = known_value (scope_types s) (scope_known s) (expr_tree e)

abbrev pub place_by : Scope → List Sides → Exprs → Option ℕ
place_by s ds es = place_known (scope_types s) (scope_known s) (map dimension ds) (exprs_tree es)
