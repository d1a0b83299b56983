use Rattle.std.proofs.Common.{◌≡◌, ◌++◌, map, take}
use Rattle.std.specs.Prelude.{flat_map}
use Rattle.meaning.specs.Syntax.{data_set_tree}
use Rattle.meaning.specs.Uses.{data_set_uses}
use Rattle.name_uses.specs.UsesAt.{uses_at}
use Rattle.name_uses.proofs.statements.add_data_uses.Given as goal

abbrev pub invariant-loop-set : goal.invariant-loop-set
invariant-loop-set l =
    uses_at l.uses.items ≡ uses_at l.initial.uses.items ++ flat_map data_set_uses (map data_set_tree (take l.set-index l.sets))
