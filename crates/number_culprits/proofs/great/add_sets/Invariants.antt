use Rattle.std.proofs.Common.{◌≡◌, ◌++◌, map, take}
use Rattle.std.specs.Prelude.{flat_map}
use Rattle.meaning.specs.NumberRules.{in_data_value}
use Rattle.meaning.specs.Syntax.{data_set_tree}
use Rattle.name_uses.specs.Held.{names_at}
use Rattle.number_culprits.proofs.great.add_sets.Given as goal

abbrev pub invariant-loop-set : goal.invariant-loop-set
invariant-loop-set l =
    names_at l.found.items ≡ names_at l.initial.found.items ++ flat_map (λ s. flat_map in_data_value s.values) (map data_set_tree (take l.set-index l.sets))
