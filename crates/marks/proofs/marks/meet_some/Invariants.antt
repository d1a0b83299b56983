use Rattle.marks.specs.Words.{MeetIn}
use Rattle.marks.proofs.marks.meet_some.Given as goal

abbrev pub invariant-loop-at : goal.invariant-loop-at
invariant-loop-at l = MeetIn l.a l.b l.from l.at → ⊥
