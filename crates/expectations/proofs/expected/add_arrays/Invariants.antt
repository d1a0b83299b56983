use Rattle.std.proofs.Common.{◌≡◌, ◌++◌, map, take}
use Rattle.std.specs.Prelude.{flat_map}
use Rattle.meaning.specs.Syntax.{declarator_tree}
use Rattle.meaning.specs.Typing.{in_bounds}
use Rattle.expectations.specs.Expected.{expected_list}
use Rattle.expectations.proofs.expected.add_arrays.Given as goal

abbrev pub invariant-loop-declarator : goal.invariant-loop-declarator
invariant-loop-declarator l =
    expected_list l.found.items ≡ expected_list l.initial.found.items ++ flat_map (λ d. flat_map in_bounds d.bounds) (map declarator_tree (take l.declarator-index l.declarators))
