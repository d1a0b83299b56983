use Rattle.std.proofs.Common.{◌≡◌, map, drop}
use Rattle.std.specs.Prelude.{flat_map}
use Rattle.std.specs.List.{list_any}
use Rattle.meaning.specs.Syntax.{data_value_tree}
use Rattle.meaning.specs.NumberRules.{in_data_value, is_too_great}
use Rattle.number_rules.proofs.great.in_values.Given as goal

abbrev pub invariant-loop-value : goal.invariant-loop-value
invariant-loop-value l =
    list_any is_too_great (flat_map in_data_value (map data_value_tree (drop l.value-index l.values))) ≡ list_any is_too_great (flat_map in_data_value (map data_value_tree l.values))
