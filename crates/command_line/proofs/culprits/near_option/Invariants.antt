use Rattle.command_line.proofs.Nearest.{SoFar}
use Rattle.command_line.proofs.culprits.near_option.Given as goal

abbrev pub invariant-loop-at : goal.invariant-loop-at
invariant-loop-at l = SoFar l.text l.at l.nearest l.least
