-- Worked examples: formats that are read, and the records that they make.
use Rattle.std.proofs.Common.{◌≡◌, ℕ, List, [], ◌∷◌, Option, Some, None, Result, Ok, Err, pos, negsuc, refl, true}
use Rattle.std.specs.Prelude.{codes}
use Rattle.std.specs.Fmt.{digits}
use Rattle.meaning.specs.declared.ending.FaultKind.{FaultKind}
use Rattle.meaning.specs.declared.ending.FaultKind.TheVariants.{F7}
use Rattle.meaning.specs.declared.ending.Value.{Value}
use Rattle.meaning.specs.declared.ending.Value.TheVariants.{Int, Bool}
use Rattle.meaning.specs.Reading.{◌>>=◌, when, either, after, run}
use Rattle.meaning.specs.Formats.{integer_field, skip, single, parts, no_parts, Parts, descriptors_of, parts_in, parts_at, next_at, part_at, counted_at, behind_count, group_at, characters_at, quoted_at, integer_at, logical_at, least_at}
use Rattle.meaning.specs.Records.{edited, outcome_of, written, text_of, laid, course}

-- what a text makes of values, where it is a format
abbrev with_values : Option Parts → List Value → Option (Result (List ℕ) FaultKind)
with_values None vs = None
with_values (Some ps) vs = Some (edited ps vs)

abbrev makes : List ℕ → List Value → Option (Result (List ℕ) FaultKind)
makes text vs = with_values (descriptors_of text) vs

-- every definition that stays folded elsewhere
all_definitions : Unit {0}
unfolding ◌>>=◌ when either after run descriptors_of parts_in parts_at next_at part_at counted_at behind_count group_at characters_at quoted_at integer_at logical_at least_at edited outcome_of written text_of laid course digits
all_definitions = tt

two_parts : descriptors_of (codes "1X,2I5") ≡ Some (parts (single 1 (skip 1)) (parts (single 2 (integer_field 5 1)) no_parts))
unfolding all_definitions
two_parts = refl

-- a trailing X writes nothing, and asterisks stand for what doesn't fit
one_record : makes (codes "I3,I5.3,I4.0,5X") (Int (negsuc 999) ∷ (Int (pos 7) ∷ (Int (pos 0) ∷ []))) ≡ Some (Ok (codes "***  007    \n"))
unfolding all_definitions
one_record = refl

-- control goes back to the last group
last_group : makes (codes "I2,2(I3)") (Int (pos 1) ∷ (Int (pos 2) ∷ (Int (pos 3) ∷ (Int (pos 4) ∷ (Int (pos 5) ∷ (Int (pos 6) ∷ [])))))) ≡ Some (Ok (codes " 1  2  3\n  4  5\n  6\n"))
unfolding all_definitions
last_group = refl

behind_the_group : makes (codes "I3,2(I2,'-'),'Z'") (Int (pos 1) ∷ (Int (pos 2) ∷ (Int (pos 3) ∷ (Int (pos 4) ∷ [])))) ≡ Some (Ok (codes "  1 2- 3-Z\n 4-\n"))
unfolding all_definitions
behind_the_group = refl

-- a colon stops where the list is used up, and the record that is open is written
colon_behind_slash : makes (codes "L3,2X,'A'/I2.2,:,'END'") (Bool true ∷ []) ≡ Some (Ok (codes "  T  A\n\n"))
unfolding all_definitions
colon_behind_slash = refl

colon_in_group : makes (codes "2(I2,:,',')") (Int (pos 1) ∷ (Int (pos 2) ∷ [])) ≡ Some (Ok (codes " 1, 2\n"))
unfolding all_definitions
colon_in_group = refl

least_digits : makes (codes "2I3.3,I2.1") (Int (negsuc 11) ∷ (Int (pos 5) ∷ (Int (pos 0) ∷ []))) ≡ Some (Ok (codes "***005 0\n"))
unfolding all_definitions
least_digits = refl

negative : makes (codes "1X,I5.2") (Int (negsuc 2) ∷ []) ≡ Some (Ok (codes "   -03\n"))
unfolding all_definitions
negative = refl

nothing_taken : makes (codes "I3,('A')") (Int (pos 1) ∷ (Int (pos 2) ∷ [])) ≡ Some (Err F7)
unfolding all_definitions
nothing_taken = refl

nothing_at_all : makes [] [] ≡ Some (Ok (codes "\n"))
unfolding all_definitions
nothing_at_all = refl

other_type : makes (codes "I3") (Int (pos 7) ∷ (Bool true ∷ [])) ≡ Some (Err F7)
unfolding all_definitions
other_type = refl

-- commas that are left out, and texts that are no format
without_commas : descriptors_of (codes "/I3:'IT''S'//") ≡ descriptors_of (codes "/,I3,:,'IT''S',/,/")
unfolding all_definitions
without_commas = refl

no_comma : descriptors_of (codes "I3'A'") ≡ None
unfolding all_definitions
no_comma = refl

empty_group : descriptors_of (codes "I3,()") ≡ None
unfolding all_definitions
empty_group = refl
