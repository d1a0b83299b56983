use Rattle.std.proofs.Common.{◌≡◌, map, drop}
use Rattle.std.specs.Prelude.{flat_map}
use Rattle.std.specs.List.{list_any}
use Rattle.meaning.specs.Syntax.{data_value_tree}
use Rattle.meaning.specs.Uses.{data_value_uses}
use Rattle.data_rules.specs.Lacking.{lacks}
use Rattle.data_rules.proofs.lacking.in_values.Given as goal

abbrev pub invariant-loop-value : goal.invariant-loop-value
invariant-loop-value l =
    list_any (lacks l.known) (flat_map data_value_uses (map data_value_tree (drop l.value-index l.values))) ≡ list_any (lacks l.known) (flat_map data_value_uses (map data_value_tree l.values))
