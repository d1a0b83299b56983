use Rattle.std.proofs.Common.{◌≡◌, ◌++◌, drop}
use Rattle.meaning.specs.Surroundings.{own_items}
use Rattle.meaning.specs.Trees.{members_tree}
use Rattle.symbols.specs.Listed.{trees_at}
use Rattle.list_culprits.proofs.seats.add_own.Given as goal

abbrev pub invariant-loop-member : goal.invariant-loop-member
invariant-loop-member l =
    trees_at l.reach.items ++ own_items (members_tree (drop l.member-index l.members)) ≡ trees_at l.initial.reach.items ++ own_items (members_tree l.members)
