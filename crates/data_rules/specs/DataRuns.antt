-- The values of DATA statements, one after another (ANSI X3.9-1978, 9.1).
use Rattle.std.specs.Prelude.{◌++◌, ℕ, List, [], ◌∷◌, map, flat_map, option_map, replicate, Option}
use Rattle.std.specs.Prelude.{Some, None}
use Rattle.meaning.specs.declared.ending.Value.{Value}
use Rattle.meaning.specs.declared.syntax.DataConstant.{DataConstant}
use Rattle.meaning.specs.declared.syntax.DataValue.{DataValue}
use Rattle.meaning.specs.declared.syntax.RepeatCount.{RepeatCount}
use Rattle.meaning.specs.Syntax.{DataValueTree, data_constant_tree, data_value_tree, repeat_tree}
use Rattle.meaning.specs.Values.{Known}
use Rattle.meaning.specs.Initial.{data_value, repeat_value, repeated}
use Rattle.data_rules.specs.declared.data_values.Run.{Run}
use Rattle.data_rules.specs.declared.data_values.Values.{Values}
use Rattle.declarations.specs.declared.known.Table.{Table}
use Rattle.declarations.specs.Tables.{known_at}

-- the values, or one that is none
abbrev pub or_one_none : Option (List Value) → List (Option Value)
or_one_none None = None ∷ []
or_one_none (Some vs) = map Some vs

abbrev pub values_of : Known → List DataValueTree → List (Option Value)
values_of known vs = flat_map (λ v. or_one_none (repeated known v)) vs

-- how often a constant stands, its value, and both
abbrev pub count_at : Table → Option RepeatCount → Option ℕ
count_at t n = repeat_value (known_at t) (option_map repeat_tree n)

abbrev pub constant_at : Table → DataConstant → Option Value
constant_at t c = data_value (known_at t) (data_constant_tree c)

abbrev pub values_at : Table → DataValue → List (Option Value)
values_at t v = or_one_none (repeated (known_at t) (data_value_tree v))

abbrev pub run_of : Run → List (Option Value)
run_of r = replicate r.count r.value

-- those that are left
abbrev pub values_left : Values → List (Option Value)
values_left v = run_of v.run ++ values_of (known_at v.table.now) (map data_value_tree v.rest.now)
