use Rattle.std.proofs.Common.{◌≡◌, ◌++◌, drop}
use Rattle.meaning.specs.Trees.{arms_tree, members_tree}
use Rattle.do_statements.specs.Listing.{listed_in, listed_in_arms}
use Rattle.do_statements.proofs.listing.+listing.Given as goal

abbrev pub invariant-add_arms-loop-arm : goal.invariant-add_arms-loop-arm
invariant-add_arms-loop-arm l =
    l.found.items ++ listed_in_arms l.fn.around (arms_tree (drop l.arm-index l.arms)) ≡ l.fn.found.items ++ listed_in_arms l.fn.around (arms_tree l.arms)

abbrev pub invariant-add_list-loop-member : goal.invariant-add_list-loop-member
invariant-add_list-loop-member l =
    l.found.items ++ listed_in l.fn.around (members_tree (drop l.member-index l.members)) ≡ l.fn.found.items ++ listed_in l.fn.around (members_tree l.members)
