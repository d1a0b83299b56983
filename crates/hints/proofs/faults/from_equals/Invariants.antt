use Rattle.std.proofs.Common.{◌≡◌, length}
use Rattle.hints.specs.Faults.{from_equals}
use Rattle.hints.proofs.faults.from_equals.Given as goal

abbrev pub invariant-loop-c : goal.invariant-loop-c
invariant-loop-c l = from_equals l.rest ≡ from_equals l.text

abbrev pub decreases-loop-c : goal.decreases-loop-c
decreases-loop-c l = length l.rest
