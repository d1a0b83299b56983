use Rattle.std.proofs.Common.{◌≡◌, List, drop}
use Rattle.meaning.specs.Syntax.{ItemTree}
use Rattle.meaning.specs.Trees.{arms_tree, members_tree}
use Rattle.list_culprits.specs.Seats.{Opener}
use Rattle.list_culprits.proofs.Seating.{passing, passing_arms}
use Rattle.list_culprits.proofs.seats.+seats.Given as goal

abbrev pub invariant-seat_in-loop-member : goal.invariant-seat_in-loop-member
invariant-seat_in-loop-member g l =
    (os : List Opener) (reach : List ItemTree) → passing (g.T.ItemTest.passes l.test) os reach (members_tree (drop l.member-index l.members)) ≡ passing (g.T.ItemTest.passes l.test) os reach (members_tree l.members)

abbrev pub invariant-seat_in_arms-loop-arm : goal.invariant-seat_in_arms-loop-arm
invariant-seat_in_arms-loop-arm g l =
    (os : List Opener) (reach : List ItemTree) → passing_arms (g.T.ItemTest.passes l.test) os reach (arms_tree (drop l.arm-index l.arms)) ≡ passing_arms (g.T.ItemTest.passes l.test) os reach (arms_tree l.arms)
