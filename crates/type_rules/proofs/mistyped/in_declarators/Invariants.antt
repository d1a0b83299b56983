use Rattle.std.proofs.Common.{◌≡◌, map, drop}
use Rattle.std.specs.Prelude.{flat_map}
use Rattle.std.specs.List.{list_any}
use Rattle.meaning.specs.Syntax.{declarator_tree}
use Rattle.meaning.specs.Typing.{in_bounds, is_mistyped}
use Rattle.type_rules.specs.Wants.{names_in}
use Rattle.type_rules.proofs.mistyped.in_declarators.Given as goal

abbrev pub invariant-loop-declarator : goal.invariant-loop-declarator
invariant-loop-declarator l =
    list_any (is_mistyped (names_in l.naming)) (flat_map (λ d. flat_map in_bounds d.bounds) (map declarator_tree (drop l.declarator-index l.declarators))) ≡ list_any (is_mistyped (names_in l.naming)) (flat_map (λ d. flat_map in_bounds d.bounds) (map declarator_tree l.declarators))
