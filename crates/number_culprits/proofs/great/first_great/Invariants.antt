use Rattle.std.proofs.Common.{◌≡◌, drop}
use Rattle.std.specs.List.{find}
use Rattle.meaning.specs.NumberRules.{is_too_great}
use Rattle.name_uses.specs.Held.{names_at}
use Rattle.number_culprits.proofs.great.first_great.Given as goal

abbrev pub invariant-loop-digits : goal.invariant-loop-digits
invariant-loop-digits l =
    find is_too_great (names_at (drop l.digits-index l.numbers)) ≡ find is_too_great (names_at l.numbers)
