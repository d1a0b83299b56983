use Rattle.std.proofs.Common.{◌≡◌, map, drop}
use Rattle.std.specs.Prelude.{flat_map}
use Rattle.std.specs.List.{list_any}
use Rattle.meaning.specs.Syntax.{declarator_tree}
use Rattle.meaning.specs.Typing.{in_bounds}
use Rattle.number_rules.specs.GreatNumbers.{has_great}
use Rattle.number_rules.proofs.great.in_declarators.Given as goal

abbrev pub invariant-loop-declarator : goal.invariant-loop-declarator
invariant-loop-declarator l =
    list_any has_great (flat_map (λ d. flat_map in_bounds d.bounds) (map declarator_tree (drop l.declarator-index l.declarators))) ≡ list_any has_great (flat_map (λ d. flat_map in_bounds d.bounds) (map declarator_tree l.declarators))
