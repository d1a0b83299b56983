use Rattle.std.proofs.Common.{◌≡◌, drop, map}
use Rattle.meaning.specs.Syntax.{data_value_tree}
use Rattle.declarations.specs.Tables.{known_at}
use Rattle.data_culprits.specs.Values.{values_fault}
use Rattle.data_culprits.proofs.values.bad_values.Given as goal

abbrev pub invariant-loop-value : goal.invariant-loop-value
invariant-loop-value l =
    values_fault (known_at l.table) (map data_value_tree (drop l.value-index l.values)) ≡ values_fault (known_at l.table) (map data_value_tree l.values)
