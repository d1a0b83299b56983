use Rattle.std.proofs.Common.{◌≡◌, ◌++◌, map, take}
use Rattle.std.specs.Prelude.{flat_map}
use Rattle.meaning.specs.Syntax.{bounds_tree}
use Rattle.meaning.specs.Typing.{in_bounds}
use Rattle.meaning.specs.Uses.{uses_in}
use Rattle.name_uses.specs.UsesAt.{uses_at}
use Rattle.name_uses.proofs.statements.add_bounds_uses.Given as goal

abbrev pub invariant-loop-bounds : goal.invariant-loop-bounds
invariant-loop-bounds l =
    uses_at l.uses.items ≡ uses_at l.initial.uses.items ++ flat_map (λ b. flat_map (λ x. uses_in x.expr) (in_bounds b)) (map bounds_tree (take l.bounds-index l.bounds-items))
