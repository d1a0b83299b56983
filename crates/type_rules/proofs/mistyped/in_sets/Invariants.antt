use Rattle.std.proofs.Common.{◌≡◌, true, map, drop}
use Rattle.std.specs.Prelude.{flat_map}
use Rattle.std.specs.List.{list_any}
use Rattle.meaning.specs.Syntax.{data_set_tree}
use Rattle.meaning.specs.Typing.{in_items, is_mistyped}
use Rattle.type_rules.specs.Wants.{names_in}
use Rattle.type_rules.proofs.mistyped.in_sets.Given as goal

abbrev pub invariant-loop-set : goal.invariant-loop-set
invariant-loop-set l =
    list_any (is_mistyped (names_in l.naming)) (flat_map (λ x. in_items true x.list) (map data_set_tree (drop l.set-index l.sets))) ≡ list_any (is_mistyped (names_in l.naming)) (flat_map (λ x. in_items true x.list) (map data_set_tree l.sets))
