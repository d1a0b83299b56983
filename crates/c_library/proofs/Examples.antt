-- What C is shown, by computation.
use Rattle.std.proofs.Common.{◌≡◌, [], ◌∷◌, refl}
use Rattle.meaning.specs.declared.ending.Ending.TheVariants as endings
use Rattle.meaning.specs.declared.ending.FaultKind.TheVariants as faults
use Rattle.meaning.specs.declared.refusal.Rule.TheVariants as rules
use Rattle.c_library.specs.Shown.{place_of, put_front}

-- K13 at line 7
rule_at_a_line : place_of (endings.Refused rules.K13 7) ≡ record { letter = 75; number = 13; line = 7 }
rule_at_a_line = refl

-- F2 at line 9
fault_at_a_line : place_of (endings.Fault (record { kind = faults.F2; line = 9 })) ≡ record { letter = 70; number = 2; line = 9 }
fault_at_a_line = refl

-- two bytes in a room for three, and four bytes in it
two_in_three : put_front (1 ∷ 2 ∷ []) (7 ∷ 8 ∷ 9 ∷ []) ≡ 1 ∷ 2 ∷ 9 ∷ []
two_in_three = refl

four_in_three : put_front (1 ∷ 2 ∷ 3 ∷ 4 ∷ []) (7 ∷ 8 ∷ 9 ∷ []) ≡ 1 ∷ 2 ∷ 3 ∷ []
four_in_three = refl
