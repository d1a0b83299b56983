use Rattle.std.proofs.Common.{◌≡◌, length}
use Rattle.hints.specs.Patterns.{holds}
use Rattle.hints.proofs.pattern.holds.Given as goal

abbrev pub invariant-loop-rest : goal.invariant-loop-rest
invariant-loop-rest l = holds l.rest l.pattern ≡ holds l.text l.pattern

abbrev pub decreases-loop-rest : goal.decreases-loop-rest
decreases-loop-rest l = length l.rest
