use Rattle.std.proofs.Common.{◌≡◌, ◌++◌, true, map, take}
use Rattle.std.specs.Prelude.{flat_map}
use Rattle.meaning.specs.Syntax.{data_set_tree}
use Rattle.meaning.specs.Typing.{in_items}
use Rattle.expectations.specs.Expected.{expected_list}
use Rattle.expectations.proofs.expected.add_sets.Given as goal

abbrev pub invariant-loop-set : goal.invariant-loop-set
invariant-loop-set l =
    expected_list l.found.items ≡ expected_list l.initial.found.items ++ flat_map (λ x. in_items true x.list) (map data_set_tree (take l.set-index l.sets))
