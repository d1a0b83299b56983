-- Worked programs with declarations, DATA, functions and rules that are broken.
use Rattle.std.proofs.Common.{◌≡◌, List, ℕ, [], ◌∷◌, Result, Ok, Err, Option, Some, None, refl}
use Rattle.std.specs.Prelude.{codes}
use Rattle.meaning.specs.declared.refusal.Rule.{Rule}
use Rattle.meaning.specs.declared.refusal.Rule.TheVariants.{K3, K4, K5, K6, K8, K9, K10, K12, K13}
use Rattle.meaning.specs.declared.ending.FaultKind.{FaultKind}
use Rattle.meaning.specs.declared.ending.FaultKind.TheVariants.{F1, F2, F3, F6, F7}
use Rattle.meaning.specs.declared.ending.Ending.TheVariants as endings
use Rattle.meaning.specs.Refusals.{◌>>=◌}
use Rattle.meaning.specs.Answers.{members_of}
use Rattle.meaning.specs.Statements.{statements_of}
use Rattle.meaning.specs.Nesting.{nest}
use Rattle.meaning.specs.Rules.{checked}
use Rattle.meaning.specs.Trees.{Nested}
use Rattle.meaning.specs.declared.refusal.Broken.{Broken}
use Rattle.meaning.proofs.Examples.{Shown, shown, all_definitions}

-- the pair that a source's program unit breaks, if it breaks a rule on names
abbrev pub broken_of : Result Nested Broken → Option Broken
broken_of (Ok t) = None
broken_of (Err b) = Some b

abbrev pub judged : List ℕ → Option Broken
judged source =
    broken_of (statements_of source >>= λ entries. members_of entries >>= λ members. nest members >>= λ t. checked t)

abbrev pub broken : Rule → ℕ → Broken
broken rule line = record { line = line; rule = rule }

abbrev writes : List ℕ → Shown
writes bytes = record { pieces = bytes ∷ []; ending = endings.Ended }

abbrev refused : Rule → ℕ → Shown
refused rule line = record { pieces = []; ending = endings.Refused rule line }

abbrev faults : FaultKind → ℕ → Shown
faults kind line = record { pieces = []; ending = endings.Fault (record { kind = kind; line = line }) }

-- every kind of declaration, DATA with an implied DO and a repeat count, and an L descriptor
declarations : shown (codes "      IMPLICIT LOGICAL (P)\n      INTEGER A(2,3)\n      PARAMETER (N=3)\n      DATA ((A(I,J),I=1,2),J=1,N)/1,2*7,4,2*0/,P/.TRUE./\n      WRITE (6,10) A(2,1),A(1,2),A(2,2),P.AND.A(1,1).EQ.1\n   10 FORMAT (3I3,L2)\n      END\n") 1000 ≡ writes (codes "  7  7  4 T\n")
unfolding all_definitions
declarations = refl

-- powers, quotients and a function of the standard
operators : shown (codes "      WRITE (6,10) 2**(-3),-7/2,MOD(-7,2),2**3**2\n   10 FORMAT (4I5)\n      END\n") 1000 ≡ writes (codes "    0   -3   -1  512\n")
unfolding all_definitions
operators = refl

-- IMPLICIT gives DO10I the type INTEGER
implied_types : shown (codes "      IMPLICIT INTEGER (A-Z)\n      D O 10 I = 1\n      WRITE (6,20) DO10I\n   20 FORMAT (I2)\n      END\n") 1000 ≡ writes (codes " 1\n")
unfolding all_definitions
implied_types = refl

-- a whole array in a list
permuted : shown (codes "      INTEGER A(8),K(8)\n      DATA K/3,1,4,8,5,2,7,6/\n      DO 10 I=1,8\n   10 A(K(I))=I\n      WRITE (6,20) A\n   20 FORMAT (8I3)\n      END\n") 1000 ≡ writes (codes "  2  6  1  3  5  8  7  4\n")
unfolding all_definitions
permuted = refl

-- a statement function and functions of the standard
functions : shown (codes "      ISQ(N)=N*N\n      WRITE (6,10) ISQ(3),SIGN(5,-2),DIM(2,7),MAX(3,9,4)\n   10 FORMAT (4I4)\n      END\n") 1000 ≡ writes (codes "   9  -5   0   9\n")
unfolding all_definitions
functions = refl

-- X is REAL
real_name : shown (codes "      X=1\n      END\n") 1000 ≡ refused K3 1
unfolding all_definitions
real_name = refl

-- I is given a value twice
given_twice : shown (codes "      DATA I/1/\n      DATA I/2/\n      END\n") 1000 ≡ refused K10 2
unfolding all_definitions
given_twice = refl

-- a LOGICAL meets I
wrong_descriptor : shown (codes "      WRITE (6,10) 7,.TRUE.\n   10 FORMAT (I3)\n      END\n") 1000 ≡ faults F7 1
unfolding all_definitions
wrong_descriptor = refl

-- X is REAL and J no function
real_and_function : shown (codes "      I=J(1)+X\n      END\n") 1000 ≡ refused K3 1
unfolding all_definitions
real_and_function = refl

-- I is no function, and X is REAL later
unknown_function : shown (codes "      J=I(1)\n      X=1\n      END\n") 1000 ≡ refused K13 1
unfolding all_definitions
unknown_function = refl

-- a REAL function is no REAL variable
real_function : shown (codes "      I=X(1)\n      END\n") 1000 ≡ refused K13 1
unfolding all_definitions
real_function = refl

-- a power outside INTEGER
too_great_power : shown (codes "      I=2**31\n      END\n") 1000 ≡ faults F2 1
unfolding all_definitions
too_great_power = refl

-- zero to the power of zero
zero_power : shown (codes "      J=1\n      I=0**0\n      END\n") 1000 ≡ faults F6 2
unfolding all_definitions
zero_power = refl

-- a zero divisor of MOD
zero_remainder : shown (codes "      I=MOD(5,0)\n      END\n") 1000 ≡ faults F1 1
unfolding all_definitions
zero_remainder = refl

-- a power of minus one
negative_power : shown (codes "      WRITE (6,10) (-1)**(-3)\n   10 FORMAT (I3)\n      END\n") 1000 ≡ writes (codes " -1\n")
unfolding all_definitions
negative_power = refl

-- the first subscript is checked before the second has a value
first_subscript : shown (codes "      INTEGER A(3,3)\n      I=A(9,1/K)\n      END\n") 1000 ≡ faults F3 2
unfolding all_definitions
first_subscript = refl

-- a fault in the first subscript comes first
second_subscript : shown (codes "      INTEGER A(3,3)\n      I=A(1/K,9)\n      END\n") 1000 ≡ faults F1 2
unfolding all_definitions
second_subscript = refl

-- a slash and a colon behind the last value
logical_text : shown (codes "      WRITE (6,10) .TRUE.\n   10 FORMAT (L3,2X,'A'/I2.2,:,'END')\n      END\n") 1000 ≡ writes (codes "  T  A\n\n")
unfolding all_definitions
logical_text = refl

-- .TRUE. is no INTEGER
mixed_operands : shown (codes "      I=1+.TRUE.\n      END\n") 1000 ≡ refused K5 1
unfolding all_definitions
mixed_operands = refl

-- a LOGICAL value for an INTEGER
wrong_target : shown (codes "      I=1.EQ.1\n      END\n") 1000 ≡ refused K5 1
unfolding all_definitions
wrong_target = refl

-- I is given a type twice
two_types : shown (codes "      INTEGER I\n      LOGICAL I\n      END\n") 1000 ≡ refused K4 2
unfolding all_definitions
two_types = refl

-- a constant is set
constant_set : shown (codes "      PARAMETER (N=1)\n      N=2\n      END\n") 1000 ≡ refused K4 2
unfolding all_definitions
constant_set = refl

-- a bound that is no constant
no_constant : shown (codes "      INTEGER A(N)\n      END\n") 1000 ≡ refused K6 1
unfolding all_definitions
no_constant = refl

-- a constant as a bound, seven elements
constant_bound : shown (codes "      PARAMETER (N=7)\n      INTEGER A(N)\n      WRITE (6,10) A\n   10 FORMAT (7I1)\n      END\n") 1000 ≡ writes (codes "0000000\n")
unfolding all_definitions
constant_bound = refl

-- MOD takes two arguments
no_sort_of_argument : shown (codes "      I=MOD(1)\n      END\n") 1000 ≡ refused K8 1
unfolding all_definitions
no_sort_of_argument = refl

-- an array without subscripts in an expression
whole_array_misused : shown (codes "      INTEGER A(2)\n      I=A+1\n      END\n") 1000 ≡ refused K8 2
unfolding all_definitions
whole_array_misused = refl

-- a statement function behind an assignment
late_function : shown (codes "      I=1\n      M(J)=J\n      END\n") 1000 ≡ refused K12 2
unfolding all_definitions
late_function = refl

-- a statement function that uses itself
itself : shown (codes "      M(J)=M(J)+1\n      END\n") 1000 ≡ refused K12 1
unfolding all_definitions
itself = refl

-- a LOGICAL as the variable of a DO
logical_counter : shown (codes "      LOGICAL L\n      DO 10 L=1,2\n   10 CONTINUE\n      END\n") 1000 ≡ refused K9 2
unfolding all_definitions
logical_counter = refl

-- a DATA subscript out of bounds
outside_data : shown (codes "      INTEGER A(3)\n      DATA A(4)/1/\n      END\n") 1000 ≡ refused K10 2
unfolding all_definitions
outside_data = refl

-- too few values
count_of_values : shown (codes "      INTEGER A(3)\n      DATA A/2*1/\n      END\n") 1000 ≡ refused K10 2
unfolding all_definitions
count_of_values = refl

-- dummies hide names
first_of_types : shown (codes "      PARAMETER (N=5)\n      M(N)=N+1\n      WRITE (6,10) M(1),N\n   10 FORMAT (2I2)\n      END\n") 1000 ≡ writes (codes " 2 5\n")
unfolding all_definitions
first_of_types = refl
