use Rattle.std.proofs.Common.{◌≡◌, drop}
use Rattle.hints.specs.Patterns.{begins}
use Rattle.hints.proofs.pattern.begins.Given as goal

abbrev pub invariant-loop-letter : goal.invariant-loop-letter
invariant-loop-letter l = begins l.rest (drop l.letter-index l.pattern) ≡ begins l.text l.pattern
