use Rattle.std.proofs.Common.{◌≡◌, map, drop}
use Rattle.std.specs.Prelude.{flat_map}
use Rattle.std.specs.List.{list_any}
use Rattle.meaning.specs.Syntax.{data_set_tree}
use Rattle.meaning.specs.NumberRules.{in_data_value, is_too_great}
use Rattle.number_rules.proofs.great.in_sets.Given as goal

abbrev pub invariant-loop-set : goal.invariant-loop-set
invariant-loop-set l =
    list_any is_too_great (flat_map (λ s. flat_map in_data_value s.values) (map data_set_tree (drop l.set-index l.sets))) ≡ list_any is_too_great (flat_map (λ s. flat_map in_data_value s.values) (map data_set_tree l.sets))
