use Rattle.std.proofs.Common.{◌≡◌, ◌^◌, min, take}
use Rattle.meaning.specs.Characters.{number_of}
use Rattle.meaning.proofs.number.number.Given as goal

abbrev pub invariant-loop-digit : goal.invariant-loop-digit
invariant-loop-digit l = l.value ≡ min (number_of (take l.digit-index l.digits)) (2 ^ 32)
