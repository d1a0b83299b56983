use Rattle.std.proofs.Common.{◌≡◌, map, drop}
use Rattle.std.specs.Prelude.{flat_map}
use Rattle.std.specs.List.{list_any}
use Rattle.meaning.specs.Syntax.{bounds_tree}
use Rattle.meaning.specs.Typing.{in_bounds, is_mistyped}
use Rattle.type_rules.specs.Wants.{names_in}
use Rattle.type_rules.proofs.mistyped.in_declarator.Given as goal

abbrev pub invariant-loop-bounds : goal.invariant-loop-bounds
invariant-loop-bounds l =
    list_any (is_mistyped (names_in l.naming)) (flat_map in_bounds (map bounds_tree (drop l.bounds-index l.declarator.bounds.items))) ≡ list_any (is_mistyped (names_in l.naming)) (flat_map in_bounds (map bounds_tree l.declarator.bounds.items))
