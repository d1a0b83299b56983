use Rattle.evaluator.proofs.Sliced.{NoneBefore}
use Rattle.evaluator.proofs.slices.first_of.Given as goal

abbrev pub invariant-loop-at : goal.invariant-loop-at
invariant-loop-at l = NoneBefore l.members l.at
