use Rattle.std.proofs.Common.{◌+◌, ◌*◌}
use Rattle.marks.specs.Words.{MeetIn}
use Rattle.marks.proofs.Bits.{IsOf, Passed}
use Rattle.marks.proofs.marks.meet_groups.Given as goal

abbrev pub decreases-bits : goal.decreases-bits
decreases-bits l = l.left

abbrev pub invariant-bits : goal.invariant-bits
invariant-bits l = record {
  of : IsOf l.mask l.left;
  none : Passed l.mask l.left (λ j. MeetIn l.a l.b (8 * (l.first + j)) (8 * (l.first + j) + 8) → ⊥);
}
