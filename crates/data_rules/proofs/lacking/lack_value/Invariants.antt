use Rattle.std.proofs.Common.{◌≡◌, map, drop}
use Rattle.std.specs.Prelude.{flat_map}
use Rattle.std.specs.List.{list_any}
use Rattle.meaning.specs.Initial.{set_uses}
use Rattle.meaning.specs.Syntax.{data_set_tree}
use Rattle.data_rules.specs.Lacking.{lacks}
use Rattle.data_rules.proofs.lacking.lack_value.Given as goal

abbrev pub invariant-loop-set : goal.invariant-loop-set
invariant-loop-set l =
    list_any (lacks l.known) (flat_map set_uses (map data_set_tree (drop l.set-index l.sets))) ≡ list_any (lacks l.known) (flat_map set_uses (map data_set_tree l.sets))
