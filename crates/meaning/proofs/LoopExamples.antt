-- Programs with END DO, DO WHILE, IMPLICIT NONE and long names, from their bytes to their bytes. Turns are counted by hand.
use Rattle.std.proofs.Common.{◌≡◌, ℕ, List, [], ◌∷◌, Some, None, Err, true, false, refl}
use Rattle.std.specs.Prelude.{codes}
use Rattle.meaning.specs.declared.ending.Ending.TheVariants as endings
use Rattle.meaning.specs.declared.ending.FaultKind.{FaultKind}
use Rattle.meaning.specs.declared.ending.FaultKind.TheVariants.{F1, F4}
use Rattle.meaning.specs.declared.refusal.Rule.{Rule}
use Rattle.meaning.specs.declared.refusal.Rule.TheVariants.{G1, N1, N4, K2, K3, K4, K5, K10}
use Rattle.meaning.specs.Syntax.{number, name, exprs, no_exprs, assignment, doing, doing_while, end_do}
use Rattle.meaning.specs.Reading.{shape_of, read_shape}
use Rattle.meaning.specs.Characters.{is_name}
use Rattle.meaning.specs.Answers.{answer, report}
use Rattle.meaning.proofs.Examples.{Shown, shown, all_definitions}

abbrev ends : Shown
ends = record { pieces = []; ending = endings.Ended }

abbrev writes : List ℕ → Shown
writes bytes = record { pieces = bytes ∷ []; ending = endings.Ended }

abbrev faults : FaultKind → ℕ → Shown
faults kind line = record { pieces = []; ending = endings.Fault (record { kind = kind; line = line }) }

abbrev refused : Rule → ℕ → Shown
refused rule line = record { pieces = []; ending = endings.Refused rule line }

-- ---- texts

do_without_label : shape_of (codes "DOI=1,N") ≡ Some (doing None false (codes "I") (record { first = number (codes "1"); last = name (codes "N"); step = None }))
unfolding all_definitions
do_without_label = refl

do_variable_while : shape_of (codes "DOWHILE=1,N") ≡ Some (doing None false (codes "WHILE") (record { first = number (codes "1"); last = name (codes "N"); step = None }))
unfolding all_definitions
do_variable_while = refl

do_while : shape_of (codes "DOWHILE(I)") ≡ Some (doing_while None false (name (codes "I")))
unfolding all_definitions
do_while = refl

do_while_label : shape_of (codes "DO10WHILE(I)") ≡ Some (doing_while (Some (codes "10")) false (name (codes "I")))
unfolding all_definitions
do_while_label = refl

do_while_comma : shape_of (codes "DO10,WHILE(I)") ≡ Some (doing_while (Some (codes "10")) true (name (codes "I")))
unfolding all_definitions
do_while_comma = refl

while_element : shape_of (codes "DOWHILE(I)=3") ≡ Some (assignment (codes "DOWHILE") (exprs (name (codes "I")) no_exprs) (number (codes "3")))
unfolding all_definitions
while_element = refl

while_variable : shape_of (codes "DOWHILE=5") ≡ Some (assignment (codes "DOWHILE") no_exprs (number (codes "5")))
unfolding all_definitions
while_variable = refl

end_do_statement : shape_of (codes "ENDDO") ≡ Some end_do
unfolding all_definitions
end_do_statement = refl

end_do_variable : shape_of (codes "ENDDO=1") ≡ Some (assignment (codes "ENDDO") no_exprs (number (codes "1")))
unfolding all_definitions
end_do_variable = refl

-- a comma needs a label
comma_alone : read_shape (codes "DO,I=1,2") ≡ Err G1
unfolding all_definitions
comma_alone = refl

-- 31 characters are a name, and 32 are none
long_name : is_name (codes "ABCDEFGHIJKLMNOPQRSTUVWXYZ01234") ≡ true
long_name = refl

too_long_name : is_name (codes "ABCDEFGHIJKLMNOPQRSTUVWXYZ012345") ≡ false
too_long_name = refl

not_under_if : read_shape (codes "IF(L)ENDDO") ≡ Err G1
unfolding all_definitions
not_under_if = refl

-- ---- both kinds of loops: 23 turns

abbrev both_loops : List ℕ
both_loops =
    codes "      IMPLICIT NONE\n      INTEGER I,J,TOTALOFROWS\n      DO I=1,4\n      TOTALOFROWS=TOTALOFROWS+I\n      END DO\n      DO WHILE (J*J.LT.TOTALOFROWS)\n      J=J+1\n      END DO\n      WRITE (6,10) I,J,TOTALOFROWS\n   10 FORMAT (3I4)\n      END\n"

both_in_23_turns : shown both_loops 23 ≡ writes (codes "   5   4  10\n")
unfolding all_definitions
both_in_23_turns = refl

both_in_22_turns : shown both_loops 22 ≡ faults F4 9
unfolding all_definitions
both_in_22_turns = refl

both_in_21_turns : shown both_loops 21 ≡ faults F4 6
unfolding all_definitions
both_in_21_turns = refl

-- the turns that are told, also of a fault, and none of a refusal
both_tell_23 : (answer both_loops 99).ending ≡ report endings.Ended (Some 23)
unfolding all_definitions
both_tell_23 = refl

fault_tells_turns : (answer both_loops 21).ending ≡ report (endings.Fault (record { kind = F4; line = 6 })) (Some 21)
unfolding all_definitions
fault_tells_turns = refl

refusal_tells_none : (answer (codes "      END DO\n      END\n") 9).ending ≡ report (endings.Refused N4 1) None
unfolding all_definitions
refusal_tells_none = refl

-- a condition that is false at once takes one turn; what it faults with has the line of the DO WHILE statement
false_at_once : shown (codes "      DO WHILE (.FALSE.)\n      K=1/0\n      END DO\n      END\n") 1 ≡ ends
unfolding all_definitions
false_at_once = refl

faulting_again : shown (codes "      I=2\n      DO 10 WHILE (6/I.GT.0)\n   10 I=I-1\n      END\n") 99 ≡ faults F1 2
unfolding all_definitions
faulting_again = refl

-- transfers: to END DO, which ends the pass; out of the range; back to the DO WHILE statement
to_end_do : shown (codes "      DO 10 WHILE (I.LT.3)\n      I=I+1\n      IF (I.EQ.2) GO TO 10\n      K=K+1\n   10 END DO\n      PRINT '(2I2)',I,K\n      END\n") 99 ≡ writes (codes " 3 2\n")
unfolding all_definitions
to_end_do = refl

out_of_while : shown (codes "      DO WHILE (.TRUE.)\n      I=I+1\n      IF (I.EQ.3) GO TO 20\n      END DO\n   20 PRINT '(I2)',I\n      END\n") 99 ≡ writes (codes " 3\n")
unfolding all_definitions
out_of_while = refl

back_to_while : shown (codes "   10 DO WHILE (I.LT.3)\n      I=I+1\n      IF (I.EQ.2) GO TO 10\n      K=K+1\n      END DO\n      PRINT '(2I2)',I,K\n      END\n") 99 ≡ writes (codes " 3 2\n")
unfolding all_definitions
back_to_while = refl

-- a terminal statement shared with a DO WHILE
shared_with_while : shown (codes "      DO 10 I=1,2\n      J=0\n      DO 10 WHILE (J.LT.I)\n   10 J=J+1\n      PRINT '(2I2)',I,J\n      END\n") 99 ≡ writes (codes " 3 2\n")
unfolding all_definitions
shared_with_while = refl

-- ---- refusals

two_labels : shown (codes "      DO 10 I=1,2\n      DO J=1,2\n   10 END DO\n      END\n") 9 ≡ refused N4 3
unfolding all_definitions
two_labels = refl

not_its_own : shown (codes "      DO 10 I=1,2\n      END DO\n   10 CONTINUE\n      END\n") 9 ≡ refused N4 2
unfolding all_definitions
not_its_own = refl

not_shared : shown (codes "      DO 10 I=1,2\n      DO 10 J=1,2\n   10 END DO\n      END\n") 9 ≡ refused N4 3
unfolding all_definitions
not_shared = refl

stands_between : shown (codes "      DO 10 I=1,2\n      DO J=1,2\n   10 CONTINUE\n      END\n") 9 ≡ refused N4 3
unfolding all_definitions
stands_between = refl

nothing_open : shown (codes "      END DO\n      END\n") 9 ≡ refused N4 1
unfolding all_definitions
nothing_open = refl

nothing_implied : shown (codes "      IMPLICIT NONE\n      I=1\n      END\n") 9 ≡ refused K3 2
unfolding all_definitions
nothing_implied = refl

two_implicit : shown (codes "      IMPLICIT NONE\n      IMPLICIT INTEGER (A)\n      END\n") 9 ≡ refused K4 2
unfolding all_definitions
two_implicit = refl

late_implicit : shown (codes "      INTEGER I\n      IMPLICIT NONE\n      END\n") 9 ≡ refused N1 2
unfolding all_definitions
late_implicit = refl

no_condition : shown (codes "      DO WHILE (I)\n      END DO\n      END\n") 9 ≡ refused K5 1
unfolding all_definitions
no_condition = refl

into_while : shown (codes "      GO TO 10\n      DO WHILE (.TRUE.)\n   10 END DO\n      END\n") 9 ≡ refused K2 1
unfolding all_definitions
into_while = refl

untyped_counter : shown (codes "      IMPLICIT NONE\n      INTEGER A(2)\n      DATA (A(I),I=1,2)/2*0/\n      END\n") 9 ≡ refused K10 3
unfolding all_definitions
untyped_counter = refl
