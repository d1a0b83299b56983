-- Worked examples: the pairs of a phase, as docs/LANGUAGE.md says them.
use Rattle.std.proofs.Common.{◌≡◌, [], ◌∷◌, refl}
use Rattle.std.specs.Prelude.{codes}
use Rattle.meaning.specs.declared.refusal.Rule.TheVariants.{C4, C6, G1, G2, K3, K6, K10, N2, N3}
use Rattle.meaning.proofs.Examples.{all_definitions}
use Rattle.all_breaches.specs.Phases.{broken_pairs}

-- a line without an initial line before it, and an apostrophe alone; what stands in the later phases isn't told
lines : broken_pairs (codes "     1+2\n      I='A\n      J=2*-3\n") ≡ record { line = 1; rule = C4 } ∷ record { line = 2; rule = C6 } ∷ []
unfolding all_definitions broken_pairs
lines = refl

texts : broken_pairs (codes "      I=2*-3\n      READ (5,*) N\n      X=1\n") ≡ record { line = 1; rule = G1 } ∷ record { line = 2; rule = G2 } ∷ []
unfolding all_definitions broken_pairs
texts = refl

order : broken_pairs (codes "      ELSE\n") ≡ record { line = 1; rule = N2 } ∷ record { line = 1; rule = N3 } ∷ []
unfolding all_definitions broken_pairs
order = refl

-- each rule at each of its lines
unit : broken_pairs (codes "      X=1\n      Y=2147483648\n      Z=2147483649\n      END\n") ≡ record { line = 1; rule = K3 } ∷ record { line = 2; rule = K3 } ∷ record { line = 3; rule = K3 } ∷ record { line = 2; rule = K6 } ∷ record { line = 3; rule = K6 } ∷ []
unfolding all_definitions broken_pairs
unit = refl

-- a DATA statement that doesn't fit gives nothing, so that the next one may give the same
data_each : broken_pairs (codes "      DATA I/1,2/\n      DATA I/1/\n      DATA I/1/\n      END\n") ≡ record { line = 1; rule = K10 } ∷ record { line = 3; rule = K10 } ∷ []
unfolding all_definitions broken_pairs
data_each = refl

-- one that gives something twice gives all that it has
data_twice : broken_pairs (codes "      DATA I,I,J/1,2,3/\n      DATA J/1/\n      DATA K/1/\n      END\n") ≡ record { line = 1; rule = K10 } ∷ record { line = 2; rule = K10 } ∷ []
unfolding all_definitions broken_pairs
data_twice = refl

-- a number that is too great is one of the constants of a DATA statement, and so has the right type
great_in_data : broken_pairs (codes "      DATA I/-2147483648/\n      END\n") ≡ record { line = 1; rule = K6 } ∷ []
unfolding all_definitions broken_pairs
great_in_data = refl

-- and may be one too many
great_and_too_many : broken_pairs (codes "      DATA I/1,2147483648/\n      END\n") ≡ record { line = 1; rule = K6 } ∷ record { line = 1; rule = K10 } ∷ []
unfolding all_definitions broken_pairs
great_and_too_many = refl

accepted : broken_pairs (codes "      I=1\n      END\n") ≡ []
unfolding all_definitions broken_pairs
accepted = refl
