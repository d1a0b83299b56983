use Rattle.std.proofs.Common.{◌≡◌, map, drop}
use Rattle.std.specs.Prelude.{flat_map}
use Rattle.std.specs.List.{list_any}
use Rattle.meaning.specs.NumberRules.{is_no_integer}
use Rattle.meaning.specs.Syntax.{bounds_tree}
use Rattle.meaning.specs.Typing.{in_bounds}
use Rattle.declarations.specs.Tables.{known_at, types_in}
use Rattle.declarations.proofs.bounds.lacks_bound.Given as goal

abbrev pub invariant-loop-bounds : goal.invariant-loop-bounds
invariant-loop-bounds l =
    list_any (is_no_integer (types_in l.table) (known_at l.table)) (flat_map (λ b. map (λ x. x.expr) (in_bounds b)) (map bounds_tree (drop l.bounds-index l.declarator.bounds.items))) ≡ list_any (is_no_integer (types_in l.table) (known_at l.table)) (flat_map (λ b. map (λ x. x.expr) (in_bounds b)) (map bounds_tree l.declarator.bounds.items))
