use Rattle.std.proofs.Common.{◌≡◌, ◌++◌, map, take}
use Rattle.std.specs.Prelude.{flat_map}
use Rattle.meaning.specs.NumberRules.{in_data_value}
use Rattle.meaning.specs.Syntax.{data_value_tree}
use Rattle.name_uses.specs.Held.{names_at}
use Rattle.number_culprits.proofs.great.add_values.Given as goal

abbrev pub invariant-loop-value : goal.invariant-loop-value
invariant-loop-value l =
    names_at l.found.items ≡ names_at l.initial.found.items ++ flat_map in_data_value (map data_value_tree (take l.value-index l.values))
