-- Each of the rules K1 to K9 broken, and near misses.
use Rattle.std.proofs.Common.{◌≡◌, Some, None, refl}
use Rattle.std.specs.Prelude.{codes}
use Rattle.meaning.specs.declared.refusal.Rule.TheVariants.{K1, K2, K3, K4, K5, K6, K7, K8, K9, K13}
use Rattle.meaning.proofs.RuleExamples.{judged, broken}
use Rattle.meaning.proofs.Examples.{all_definitions}

-- a label that an earlier statement has
label_twice : judged (codes "   10 I=1\n   10 J=1\n      END\n") ≡ Some (broken K1 2)
unfolding all_definitions
label_twice = refl

-- a transfer to no statement
no_such_label : judged (codes "      GO TO 10\n      END\n") ≡ Some (broken K2 1)
unfolding all_definitions
no_such_label = refl

-- a transfer into a range
into_a_range : judged (codes "      GO TO 10\n      DO 10 I=1,3\n   10 J=J+1\n      END\n") ≡ Some (broken K2 1)
unfolding all_definitions
into_a_range = refl

-- a transfer out of a range, to END
out_of_a_range : judged (codes "      DO 10 I=1,3\n      IF (I.EQ.2) GO TO 20\n   10 CONTINUE\n   20 END\n") ≡ None
unfolding all_definitions
out_of_a_range = refl

-- a transfer to a FORMAT statement
to_a_format : judged (codes "      GO TO (10,20),I\n   10 FORMAT (I2)\n   20 END\n") ≡ Some (broken K2 1)
unfolding all_definitions
to_a_format = refl

-- a transfer to ELSE
to_else : judged (codes "      IF (I.EQ.1) THEN\n      GO TO 10\n   10 ELSE\n      END IF\n      END\n") ≡ Some (broken K2 2)
unfolding all_definitions
to_else = refl

-- a transfer to END IF, the point behind its block IF
to_end_if : judged (codes "      IF (I.EQ.1) THEN\n      GO TO 10\n      END IF\n      IF (J.EQ.1) THEN\n   20 END IF\n      IF (K) 20,10,20\n   10 END\n") ≡ None
unfolding all_definitions
to_end_if = refl

-- a transfer into another arm
into_an_arm : judged (codes "      IF (I.EQ.1) THEN\n      GO TO 10\n      ELSE\n   10 J=1\n      END IF\n      END\n") ≡ Some (broken K2 2)
unfolding all_definitions
into_an_arm = refl

-- a transfer to IF THEN
to_if_then : judged (codes "   10 IF (I.EQ.1) THEN\n      GO TO 10\n      END IF\n      END\n") ≡ None
unfolding all_definitions
to_if_then = refl

-- a transfer to a statement function
to_a_function : judged (codes "   10 M(J)=J\n      GO TO 10\n      END\n") ≡ Some (broken K2 2)
unfolding all_definitions
to_a_function = refl

-- a REAL array, where it is declared
real_array : judged (codes "      DIMENSION X(3)\n      I=1\n      END\n") ≡ Some (broken K3 1)
unfolding all_definitions
real_array = refl

-- a REAL constant
real_constant : judged (codes "      PARAMETER (X=1)\n      END\n") ≡ Some (broken K3 1)
unfolding all_definitions
real_constant = refl

-- a REAL dummy
real_dummy : judged (codes "      M(X)=1\n      END\n") ≡ Some (broken K3 1)
unfolding all_definitions
real_dummy = refl

-- a REAL statement function
real_statement_function : judged (codes "      F(J)=J\n      END\n") ≡ Some (broken K3 1)
unfolding all_definitions
real_statement_function = refl

-- a REAL constant with parentheses, where it first appears
real_constant_with_parentheses : judged (codes "      INTEGER L(X(1))\n      PARAMETER (X=2)\n      END\n") ≡ Some (broken K3 1)
unfolding all_definitions
real_constant_with_parentheses = refl

-- a REAL variable in a dummy that is no name
real_in_a_dummy : judged (codes "      N(X+1)=1\n      END\n") ≡ Some (broken K3 1)
unfolding all_definitions
real_in_a_dummy = refl

-- IMPLICIT makes them INTEGER
implicit_letters : judged (codes "      IMPLICIT INTEGER (A-C,X)\n      A=X\n      END\n") ≡ None
unfolding all_definitions
implicit_letters = refl

-- a type statement holds for the whole unit
declared_later : judged (codes "      PARAMETER (X=1)\n      INTEGER X\n      END\n") ≡ None
unfolding all_definitions
declared_later = refl

-- bounds twice
bounds_twice : judged (codes "      INTEGER A(2)\n      DIMENSION A(3)\n      END\n") ≡ Some (broken K4 2)
unfolding all_definitions
bounds_twice = refl

-- a type and bounds in two statements
type_and_bounds : judged (codes "      INTEGER A\n      DIMENSION A(3)\n      END\n") ≡ None
unfolding all_definitions
type_and_bounds = refl

-- a PARAMETER value twice
value_twice : judged (codes "      PARAMETER (N=1)\n      PARAMETER (N=2)\n      END\n") ≡ Some (broken K4 2)
unfolding all_definitions
value_twice = refl

-- a statement function twice
function_twice : judged (codes "      M(I)=I\n      M(J)=J\n      END\n") ≡ Some (broken K4 2)
unfolding all_definitions
function_twice = refl

-- an array and a constant
array_and_constant : judged (codes "      INTEGER N(2)\n      PARAMETER (N=2)\n      END\n") ≡ Some (broken K4 2)
unfolding all_definitions
array_and_constant = refl

-- a constant and a statement function
constant_and_function : judged (codes "      PARAMETER (N=2)\n      N(I)=I\n      END\n") ≡ Some (broken K4 2)
unfolding all_definitions
constant_and_function = refl

-- a constant with parentheses
constant_with_parentheses : judged (codes "      PARAMETER (N=2)\n      I=N(1)\n      END\n") ≡ Some (broken K4 2)
unfolding all_definitions
constant_with_parentheses = refl

-- a statement function without parentheses
bare_function : judged (codes "      M(I)=I\n      J=M\n      END\n") ≡ Some (broken K4 2)
unfolding all_definitions
bare_function = refl

-- the same in one of its own dummies that is no name
function_in_its_dummy : judged (codes "      J(2.GE.(J))=1\n      END\n") ≡ Some (broken K4 1)
unfolding all_definitions
function_in_its_dummy = refl

-- a type statement names a statement function
typed_function : judged (codes "      LOGICAL P\n      P(I)=I.GT.0\n      J=1\n      END\n") ≡ None
unfolding all_definitions
typed_function = refl

-- a variable that is used as a function later
variable_and_function : judged (codes "      J=K\n      I=K(1)\n      END\n") ≡ Some (broken K4 2)
unfolding all_definitions
variable_and_function = refl

-- and the other way round
function_and_variable : judged (codes "      I=K(1)\n      J=K\n      END\n") ≡ Some (broken K13 1)
unfolding all_definitions
function_and_variable = refl

-- a function of the standard that a LOGICAL statement names
logical_intrinsic : judged (codes "      LOGICAL MAX\n      I=MAX(1,2)\n      END\n") ≡ Some (broken K4 2)
unfolding all_definitions
logical_intrinsic = refl

-- an INTEGER statement that names one has no effect
integer_intrinsic : judged (codes "      INTEGER MAX\n      I=MAX(1,2)\n      END\n") ≡ None
unfolding all_definitions
integer_intrinsic = refl

-- a letter in two ranges
letters_twice : judged (codes "      IMPLICIT INTEGER (A-C),LOGICAL (C)\n      END\n") ≡ Some (broken K4 1)
unfolding all_definitions
letters_twice = refl

-- letters out of order
letters_reversed : judged (codes "      IMPLICIT INTEGER (C-A)\n      END\n") ≡ Some (broken K4 1)
unfolding all_definitions
letters_reversed = refl

-- an operand of the wrong type
logical_sum : judged (codes "      LOGICAL P\n      I=P+1\n      END\n") ≡ Some (broken K5 2)
unfolding all_definitions
logical_sum = refl

-- .NOT. of an INTEGER
negated_integer : judged (codes "      LOGICAL P\n      P=.NOT.I\n      END\n") ≡ Some (broken K5 2)
unfolding all_definitions
negated_integer = refl

-- a limit of the wrong type
logical_limit : judged (codes "      LOGICAL P\n      DO 10 I=1,P\n   10 CONTINUE\n      END\n") ≡ Some (broken K5 2)
unfolding all_definitions
logical_limit = refl

-- a condition of the wrong type
integer_condition : judged (codes "      IF (I) J=1\n      END\n") ≡ Some (broken K5 1)
unfolding all_definitions
integer_condition = refl

-- a subscript of the wrong type
logical_subscript : judged (codes "      INTEGER A(2)\n      A(.TRUE.)=1\n      END\n") ≡ Some (broken K5 2)
unfolding all_definitions
logical_subscript = refl

-- a subscript in DATA of the wrong type, behind a name that is no array
data_subscript_of_the_wrong_type : judged (codes "      DATA J(.TRUE.)/1/\n      END\n") ≡ Some (broken K5 1)
unfolding all_definitions
data_subscript_of_the_wrong_type = refl

-- an argument of the wrong type
logical_argument : judged (codes "      M(I)=I\n      J=M(.TRUE.)\n      END\n") ≡ Some (broken K5 2)
unfolding all_definitions
logical_argument = refl

-- a PARAMETER value of the wrong type
wrong_parameter : judged (codes "      PARAMETER (N=.TRUE.)\n      END\n") ≡ Some (broken K5 1)
unfolding all_definitions
wrong_parameter = refl

-- an expression of the wrong type
wrong_function : judged (codes "      M(I)=I.EQ.1\n      END\n") ≡ Some (broken K5 1)
unfolding all_definitions
wrong_function = refl

-- a LOGICAL constant
logical_constant : judged (codes "      LOGICAL P\n      PARAMETER (P=.TRUE.)\n      IF (P) I=1\n      END\n") ≡ None
unfolding all_definitions
logical_constant = refl

-- an unknown function agrees with every type, its sum does not
unknown_agrees : judged (codes "      LOGICAL L\n      L=FOO(1)\n      END\n") ≡ Some (broken K13 2)
unfolding all_definitions
unknown_agrees = refl

-- and a sum is INTEGER
unknown_sum : judged (codes "      LOGICAL L\n      L=FOO(1)+1\n      END\n") ≡ Some (broken K5 2)
unfolding all_definitions
unknown_sum = refl

-- an integer constant outside INTEGER
great_constant : judged (codes "      I=2147483648\n      END\n") ≡ Some (broken K6 1)
unfolding all_definitions
great_constant = refl

-- in a DATA statement
great_data : judged (codes "      DATA I/-2147483648/\n      END\n") ≡ Some (broken K6 1)
unfolding all_definitions
great_data = refl

-- a bound with a variable
variable_bound : judged (codes "      INTEGER A(N)\n      END\n") ≡ Some (broken K6 1)
unfolding all_definitions
variable_bound = refl

-- a constant that is defined later
later_constant : judged (codes "      INTEGER A(N)\n      PARAMETER (N=3)\n      END\n") ≡ Some (broken K6 1)
unfolding all_definitions
later_constant = refl

-- a PARAMETER value that faults
faulting_constant : judged (codes "      PARAMETER (N=1/0)\n      END\n") ≡ Some (broken K6 1)
unfolding all_definitions
faulting_constant = refl

-- no function in a constant expression
function_in_constant : judged (codes "      PARAMETER (N=ABS(1))\n      END\n") ≡ Some (broken K6 1)
unfolding all_definitions
function_in_constant = refl

-- a constant of the same statement
earlier_constant : judged (codes "      PARAMETER (N=3,M=N*2)\n      INTEGER A(M)\n      A(6)=1\n      END\n") ≡ None
unfolding all_definitions
earlier_constant = refl

-- eight dimensions
eight_dimensions : judged (codes "      INTEGER A(1,1,1,1,1,1,1,1)\n      END\n") ≡ Some (broken K7 1)
unfolding all_definitions
eight_dimensions = refl

-- a lower bound above the upper one
reversed_bounds : judged (codes "      INTEGER A(2:1)\n      END\n") ≡ Some (broken K7 1)
unfolding all_definitions
reversed_bounds = refl

-- arrays that pass 16,777,216 elements together
two_large_arrays : judged (codes "      INTEGER A(16777216)\n      LOGICAL B(1)\n      END\n") ≡ Some (broken K7 2)
unfolding all_definitions
two_large_arrays = refl

-- a wrong number of subscripts
two_subscripts : judged (codes "      INTEGER A(2)\n      A(1,1)=1\n      END\n") ≡ Some (broken K8 2)
unfolding all_definitions
two_subscripts = refl

-- a wrong number of arguments
two_arguments : judged (codes "      M(I)=I\n      J=M(1,2)\n      END\n") ≡ Some (broken K8 2)
unfolding all_definitions
two_arguments = refl

-- an array in parentheses is no item
array_in_expression : judged (codes "      INTEGER A(2)\n      WRITE (6,10) (A)\n   10 FORMAT (I2)\n      END\n") ≡ Some (broken K8 2)
unfolding all_definitions
array_in_expression = refl

-- an array that is set as a whole
array_as_target : judged (codes "      INTEGER A(2)\n      A=1\n      END\n") ≡ Some (broken K8 2)
unfolding all_definitions
array_as_target = refl

-- an array as the variable of a DO
array_as_counter : judged (codes "      INTEGER A(2)\n      DO 10 A=1,2\n   10 CONTINUE\n      END\n") ≡ Some (broken K8 2)
unfolding all_definitions
array_as_counter = refl

-- a constant as the variable of a DO
constant_as_counter : judged (codes "      PARAMETER (N=1)\n      DO 10 N=1,2\n   10 CONTINUE\n      END\n") ≡ Some (broken K9 2)
unfolding all_definitions
constant_as_counter = refl

-- an assignment in the range sets it
reset : judged (codes "      DO 10 I=1,2\n      IF (J.EQ.1) I=2\n   10 CONTINUE\n      END\n") ≡ Some (broken K9 2)
unfolding all_definitions
reset = refl

-- an implied DO sets it
reset_in_a_list : judged (codes "      DO 10 I=1,2\n   10 WRITE (6,20) (I,I=1,2)\n   20 FORMAT (I2)\n      END\n") ≡ Some (broken K9 2)
unfolding all_definitions
reset_in_a_list = refl

-- implied DOs in DATA with one variable
nested_counters : judged (codes "      INTEGER A(2)\n      DATA ((A(I),I=1,2),I=1,1)/2*1/\n      END\n") ≡ Some (broken K9 2)
unfolding all_definitions
nested_counters = refl
