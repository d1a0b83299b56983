-- Each of the rules K10 to K13 broken, and near misses.
use Rattle.std.proofs.Common.{◌≡◌, List, ℕ, [], ◌∷◌, Result, Ok, Err, Some, None, refl}
use Rattle.std.specs.Prelude.{codes}
use Rattle.meaning.specs.declared.refusal.Broken.{Broken}
use Rattle.meaning.specs.declared.refusal.Rule.TheVariants.{K5, K6, K7, K10, K11, K12, K13}
use Rattle.meaning.specs.Refusals.{◌>>=◌}
use Rattle.meaning.specs.Answers.{members_of}
use Rattle.meaning.specs.Statements.{statements_of}
use Rattle.meaning.specs.Nesting.{nest}
use Rattle.meaning.specs.Rules.{broken_rules}
use Rattle.meaning.specs.Trees.{Nested}
use Rattle.meaning.proofs.RuleExamples.{judged, broken}
use Rattle.meaning.proofs.Examples.{all_definitions}

-- a value of the wrong type
data_type : judged (codes "      DATA I/.TRUE./\n      END\n") ≡ Some (broken K10 1)
unfolding all_definitions
data_type = refl

-- too many values
too_many_values : judged (codes "      DATA I/1,2/\n      END\n") ≡ Some (broken K10 1)
unfolding all_definitions
too_many_values = refl

-- a repeat count of 0
no_repeat : judged (codes "      INTEGER A(1)\n      DATA A/0*1,1/\n      END\n") ≡ Some (broken K10 2)
unfolding all_definitions
no_repeat = refl

-- a repeat count by name
named_repeat : judged (codes "      PARAMETER (N=2)\n      INTEGER A(2)\n      DATA A/N*7/\n      END\n") ≡ None
unfolding all_definitions
named_repeat = refl

-- a name that is no constant
named_value : judged (codes "      DATA I/J/\n      END\n") ≡ Some (broken K10 1)
unfolding all_definitions
named_value = refl

-- an item that is a constant
constant_item : judged (codes "      PARAMETER (N=2)\n      DATA N/1/\n      END\n") ≡ Some (broken K10 2)
unfolding all_definitions
constant_item = refl

-- a variable with a subscript, which is no function there
variable_with_subscript : judged (codes "      J=1\n      DATA J(1)/1/\n      END\n") ≡ Some (broken K10 2)
unfolding all_definitions
variable_with_subscript = refl

-- an element that is given twice
element_twice : judged (codes "      INTEGER A(2)\n      DATA A(1)/1/,A/2*2/\n      END\n") ≡ Some (broken K10 2)
unfolding all_definitions
element_twice = refl

-- an increment of 0
no_step : judged (codes "      INTEGER A(2)\n      DATA (A(I),I=1,2,0)/2*1/\n      END\n") ≡ Some (broken K10 2)
unfolding all_definitions
no_step = refl

-- an implied DO without a trip
no_trip : judged (codes "      INTEGER A(2)\n      DATA (A(I),I=2,1)/1/\n      END\n") ≡ Some (broken K10 2)
unfolding all_definitions
no_trip = refl

-- a negative increment
downwards_data : judged (codes "      INTEGER A(2)\n      DATA (A(I),I=2,1,-1)/1,2/\n      END\n") ≡ None
unfolding all_definitions
downwards_data = refl

-- limits by the variable around
triangle : judged (codes "      INTEGER A(2,2)\n      DATA ((A(I,J),I=1,J),J=1,2)/3*1/\n      END\n") ≡ None
unfolding all_definitions
triangle = refl

-- a subscript that is no constant
variable_subscript : judged (codes "      INTEGER A(2)\n      DATA A(K)/1/\n      END\n") ≡ Some (broken K10 2)
unfolding all_definitions
variable_subscript = refl

-- a subscript that faults
faulting_subscript : judged (codes "      INTEGER A(2)\n      DATA A(1/0)/1/\n      END\n") ≡ Some (broken K10 2)
unfolding all_definitions
faulting_subscript = refl

-- the variable of an implied DO has nothing to do with the program
own_variable : judged (codes "      INTEGER A(2)\n      DATA (A(I),I=1,2)/2*1/\n      DATA I/5/\n      END\n") ≡ None
unfolding all_definitions
own_variable = refl

-- a REAL variable of an implied DO
real_counter : judged (codes "      INTEGER A(2)\n      DATA (A(1),X=1,1)/1/\n      END\n") ≡ Some (broken K10 2)
unfolding all_definitions
real_counter = refl

-- another unit
unit_five : judged (codes "      WRITE (5,10)\n   10 FORMAT (I2)\n      END\n") ≡ Some (broken K11 1)
unfolding all_definitions
unit_five = refl

-- a constant of value 6
unit_by_name : judged (codes "      PARAMETER (N=6)\n      WRITE (N,10)\n   10 FORMAT (I2)\n      END\n") ≡ None
unfolding all_definitions
unit_by_name = refl

-- no FORMAT statement
no_format : judged (codes "      WRITE (6,10)\n   10 CONTINUE\n      END\n") ≡ Some (broken K11 1)
unfolding all_definitions
no_format = refl

-- a format that is none
broken_format : judged (codes "   10 FORMAT (Q2)\n      END\n") ≡ Some (broken K11 1)
unfolding all_definitions
broken_format = refl

-- a FORMAT statement without a label
unlabelled_format : judged (codes "      FORMAT (I2)\n      END\n") ≡ Some (broken K11 1)
unfolding all_definitions
unlabelled_format = refl

-- a format under a logical IF
under_if : judged (codes "      IF (.TRUE.) PRINT 10\n      END\n") ≡ Some (broken K11 1)
unfolding all_definitions
under_if = refl

-- under a logical IF
function_under_if : judged (codes "      IF (.TRUE.) M(I)=I\n      END\n") ≡ Some (broken K12 1)
unfolding all_definitions
function_under_if = refl

-- two dummies of one name
dummies_alike : judged (codes "      M(I,I)=I\n      END\n") ≡ Some (broken K12 1)
unfolding all_definitions
dummies_alike = refl

-- a dummy that is no name
dummy_expression : judged (codes "      M(1)=1\n      END\n") ≡ Some (broken K12 1)
unfolding all_definitions
dummy_expression = refl

-- a dummy with parentheses
dummy_called : judged (codes "      M(I)=I(1)\n      END\n") ≡ Some (broken K12 1)
unfolding all_definitions
dummy_called = refl

-- which hides the program's own variable
dummy_hides_a_variable : judged (codes "      DATA J/1/\n      I(J)=J(1)\n      END\n") ≡ Some (broken K12 2)
unfolding all_definitions
dummy_hides_a_variable = refl

-- a later statement function
later_function : judged (codes "      M(I)=L(I)\n      L(I)=I\n      END\n") ≡ Some (broken K12 1)
unfolding all_definitions
later_function = refl

-- an earlier one
earlier_function : judged (codes "      L(I)=I\n      M(I)=L(I)+1\n      J=M(2)\n      END\n") ≡ None
unfolding all_definitions
earlier_function = refl

-- seventeen dummies
seventeen_dummies : judged (codes "      M(I1,I2,I3,I4,I5,I6,I7,I8,I9,J1,J2,J3,J4,J5,J6,J7,J8)=1\n      END\n") ≡ Some (broken K12 1)
unfolding all_definitions
seventeen_dummies = refl

-- and sixteen
sixteen_dummies : judged (codes "      M(I1,I2,I3,I4,I5,I6,I7,I8,I9,J1,J2,J3,J4,J5,J6,J7)=1\n      END\n") ≡ None
unfolding all_definitions
sixteen_dummies = refl

-- a type statement makes no variable
declared_function : judged (codes "      INTEGER FOO\n      I=FOO(1)\n      END\n") ≡ Some (broken K13 2)
unfolding all_definitions
declared_function = refl

-- a function reference without arguments
called_function : judged (codes "      I=J()\n      END\n") ≡ Some (broken K13 1)
unfolding all_definitions
called_function = refl

-- ---- what has no value breaks no further rule

abbrev rules_of : Result Nested Broken → List Broken
rules_of (Ok t) = broken_rules t
rules_of (Err b) = b ∷ []

-- all pairs of a program unit
abbrev all_judged : List ℕ → List Broken
all_judged source = rules_of (statements_of source >>= λ entries. members_of entries >>= λ members. nest members)

-- a bound that is no constant
variable_bound : all_judged (codes "      INTEGER A(N)\n      END\n") ≡ broken K6 1 ∷ []
unfolding all_definitions
variable_bound = refl

-- one that faults
faulty_bound : all_judged (codes "      INTEGER A(1/0)\n      END\n") ≡ broken K6 1 ∷ []
unfolding all_definitions
faulty_bound = refl

-- one that is no INTEGER
logical_bound : all_judged (codes "      INTEGER A(.FALSE.)\n      END\n") ≡ broken K5 1 ∷ []
unfolding all_definitions
logical_bound = refl

-- a constant without a value, in DATA
constant_without_value : all_judged (codes "      PARAMETER (N=1/0)\n      DATA I/N/\n      END\n") ≡ broken K6 1 ∷ []
unfolding all_definitions
constant_without_value = refl

-- and in a bound
bound_without_value : all_judged (codes "      PARAMETER (N=1/0)\n      INTEGER A(N-2)\n      END\n") ≡ broken K6 1 ∷ (broken K6 2 ∷ [])
unfolding all_definitions
bound_without_value = refl

-- an array without a size
array_without_size : all_judged (codes "      INTEGER A(0:N)\n      DATA A/3*1/\n      END\n") ≡ broken K6 1 ∷ []
unfolding all_definitions
array_without_size = refl

-- an array and a list with values of their own break theirs
size_of_its_own : all_judged (codes "      INTEGER A(N),B(1:0)\n      DATA I/1,2/\n      END\n") ≡ broken K6 1 ∷ (broken K7 1 ∷ (broken K10 2 ∷ []))
unfolding all_definitions
size_of_its_own = refl
