use Rattle.std.proofs.Common.{◌≡◌, true, map, drop}
use Rattle.std.specs.Prelude.{flat_map}
use Rattle.std.specs.List.{list_any}
use Rattle.meaning.specs.Syntax.{data_set_tree}
use Rattle.meaning.specs.Typing.{in_items}
use Rattle.number_rules.specs.GreatNumbers.{has_great}
use Rattle.number_rules.proofs.great.in_lists.Given as goal

abbrev pub invariant-loop-set : goal.invariant-loop-set
invariant-loop-set l =
    list_any has_great (flat_map (λ x. in_items true x.list) (map data_set_tree (drop l.set-index l.sets))) ≡ list_any has_great (flat_map (λ x. in_items true x.list) (map data_set_tree l.sets))
