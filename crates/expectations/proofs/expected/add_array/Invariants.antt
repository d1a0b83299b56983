use Rattle.std.proofs.Common.{◌≡◌, ◌++◌, map, take}
use Rattle.std.specs.Prelude.{flat_map}
use Rattle.meaning.specs.Syntax.{bounds_tree}
use Rattle.meaning.specs.Typing.{in_bounds}
use Rattle.expectations.specs.Expected.{expected_list}
use Rattle.expectations.proofs.expected.add_array.Given as goal

abbrev pub invariant-loop-bounds : goal.invariant-loop-bounds
invariant-loop-bounds l =
    expected_list l.found.items ≡ expected_list l.initial.found.items ++ flat_map in_bounds (map bounds_tree (take l.bounds-index l.bounds-items))
