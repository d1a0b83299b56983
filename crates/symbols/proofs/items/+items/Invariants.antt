use Rattle.std.proofs.Common.{◌≡◌, ◌++◌, map, drop}
use Rattle.meaning.specs.Trees.{arms_tree, flat, flat_arms, members_tree}
use Rattle.symbols.specs.Listed.{tree_at}
use Rattle.symbols.proofs.items.+items.Given as goal

abbrev pub invariant-add_items-loop-member : goal.invariant-add_items-loop-member
invariant-add_items-loop-member l =
    map tree_at l.items.items ++ flat (members_tree (drop l.member-index l.members)) ≡ map tree_at l.initial.items.items ++ flat (members_tree l.members)

abbrev pub invariant-add_arms-loop-arm : goal.invariant-add_arms-loop-arm
invariant-add_arms-loop-arm l =
    map tree_at l.items.items ++ flat_arms (arms_tree (drop l.arm-index l.arms)) ≡ map tree_at l.initial.items.items ++ flat_arms (arms_tree l.arms)
