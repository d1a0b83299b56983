use Rattle.std.proofs.Common.{◌≡◌, ◌++◌, map, take}
use Rattle.std.specs.Prelude.{flat_map}
use Rattle.meaning.specs.Syntax.{data_value_tree}
use Rattle.meaning.specs.Uses.{data_value_uses}
use Rattle.name_uses.specs.UsesAt.{uses_at}
use Rattle.name_uses.proofs.statements.add_data_values_uses.Given as goal

abbrev pub invariant-loop-value : goal.invariant-loop-value
invariant-loop-value l =
    uses_at l.uses.items ≡ uses_at l.initial.uses.items ++ flat_map (data_value_uses) (map data_value_tree (take l.value-index l.values))
