-- The dimensions that bounds give by the constants of a table.
use Rattle.std.specs.Prelude.{ℤ, List, map}
use Rattle.meaning.specs.declared.syntax.Bounds.{Bounds}
use Rattle.meaning.specs.declared.syntax.Expr.{Expr}
use Rattle.meaning.specs.Arrays as arrays
use Rattle.meaning.specs.Scopes.{dimension_of, integer_if}
use Rattle.meaning.specs.Syntax.{bounds_tree}
use Rattle.declarations.specs.declared.known.Table.{Table}
use Rattle.declarations.specs.Tables.{known_at, types_in, value_at}

abbrev pub bound_at : Table → Expr → ℤ
bound_at t e = integer_if (value_at (types_in t) (known_at t) e)

abbrev pub dimension_at : Table → Bounds → arrays.Dimension
dimension_at t b = dimension_of (types_in t) (known_at t) (bounds_tree b)

abbrev pub dimensions_at : Table → List Bounds → List arrays.Dimension
dimensions_at t bs = map (dimension_of (types_in t) (known_at t)) (map bounds_tree bs)
