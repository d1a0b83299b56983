-- The trips of implied DOs in DATA statements.
use Rattle.std.specs.Prelude.{ℕ, ◌<◌, ℤ, pos, ◌+ℤ◌, ◌*ℤ◌, List, map, Option, option_map, FitsSigned}
use Rattle.std.specs.Int.{w32}
use Rattle.std.specs.List.{range_with_len}
use Rattle.meaning.specs.declared.syntax.Expr.{Expr}
use Rattle.meaning.specs.declared.syntax.Limits.{Limits}
use Rattle.meaning.specs.Initial.{known_trips, step_of}
use Rattle.meaning.specs.Syntax.{expr_tree, limits_tree}
use Rattle.declarations.specs.declared.known.Scope.{Scope}
use Rattle.declarations.specs.Tables.{scope_known, scope_types}
use Rattle.data_rules.specs.declared.trips.Trips.{Trips}

-- the values of the variable
abbrev pub trips_by : Trips → List ℤ
trips_by t = map (λ k. t.first +ℤ pos k *ℤ t.step) (range_with_len 0 t.count)

-- each of them is an INTEGER
abbrev pub AreIntegers : Trips → Type 0
AreIntegers t = (k : ℕ) → k < t.count → FitsSigned w32 (t.first +ℤ pos k *ℤ t.step)

-- the step, and the values, by what is known in a scope
abbrev pub step_in : Scope → Option Expr → Option ℤ
step_in s e = step_of (scope_types s) (scope_known s) (option_map expr_tree e)

abbrev pub trips_in : Scope → Limits → Option (List ℤ)
trips_in s limits = known_trips (scope_types s) (scope_known s) (limits_tree limits)
