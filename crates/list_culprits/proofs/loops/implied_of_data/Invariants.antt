use Rattle.std.proofs.Common.{◌≡◌, map, drop}
use Rattle.meaning.specs.Syntax.{data_set_tree}
use Rattle.list_culprits.specs.Loops.{implied_in_sets}
use Rattle.list_culprits.proofs.loops.implied_of_data.Given as goal

abbrev pub invariant-loop-set : goal.invariant-loop-set
invariant-loop-set l =
    implied_in_sets (map data_set_tree (drop l.set-index l.sets)) ≡ implied_in_sets (map data_set_tree l.sets)
