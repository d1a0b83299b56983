-- Programs with transfers, IF statements, STOP and implied DOs, from their bytes to their bytes. Turns are counted by hand; a
-- limit is met exactly, or missed by one.
use Rattle.std.proofs.Common.{◌≡◌, ℕ, ℤ, pos, List, [], ◌∷◌, Result, Ok, Err, refl}
use Rattle.std.specs.Prelude.{codes}
use Rattle.meaning.specs.declared.ending.Ending.TheVariants as endings
use Rattle.meaning.specs.declared.ending.FaultKind.{FaultKind}
use Rattle.meaning.specs.declared.ending.FaultKind.TheVariants.{F1, F2, F4, F5}
use Rattle.meaning.specs.declared.refusal.Rule.TheVariants.{K2}
use Rattle.meaning.specs.declared.refusal.Broken.{Broken}
use Rattle.meaning.specs.Answers.{program_of, run_of}
use Rattle.meaning.specs.Trees.{Nested}
use Rattle.meaning.proofs.Examples.{Shown, shown, all_definitions}

abbrev ends : Shown
ends = record { pieces = []; ending = endings.Ended }

abbrev writes : List ℕ → Shown
writes bytes = record { pieces = bytes ∷ []; ending = endings.Ended }

abbrev stops : List ℕ → Shown
stops text = record { pieces = []; ending = endings.Stopped text }

abbrev faults : FaultKind → ℕ → Shown
faults kind line = record { pieces = []; ending = endings.Fault (record { kind = kind; line = line }) }

-- ---- a block IF with all kinds of arms, and a backward transfer: 24 turns

abbrev arms_program : List ℕ
arms_program =
    codes "      I=0\n   10 I=I+1\n      IF (I.EQ.2) THEN\n      K=K+10\n      ELSE IF (I.EQ.3) THEN\n      K=K+100\n      ELSE\n      K=K+1\n      END IF\n      IF (I.LT.4) GO TO 10\n      WRITE (6,20) I,K\n   20 FORMAT (2I5)\n      END\n"

arms_in_24_turns : shown arms_program 24 ≡ writes (codes "    4  112\n")
unfolding all_definitions
arms_in_24_turns = refl

arms_in_23_turns : shown arms_program 23 ≡ faults F4 11
unfolding all_definitions
arms_in_23_turns = refl

-- each ELSE IF that is tested takes a turn, and ELSE takes none
abbrev tests_program : List ℕ
tests_program =
    codes "      IF (K.EQ.1) THEN\n      K=5\n      ELSE IF (K.EQ.2) THEN\n      K=6\n      ELSE IF (K.GT.2) THEN\n      K=7\n      ELSE\n      K=8\n      END IF\n      WRITE (6,10) K\n   10 FORMAT (I3)\n      END\n"

tests_in_5_turns : shown tests_program 5 ≡ writes (codes "  8\n")
unfolding all_definitions
tests_in_5_turns = refl

first_test_too_many : shown tests_program 0 ≡ faults F4 1
unfolding all_definitions
first_test_too_many = refl

second_test_too_many : shown tests_program 1 ≡ faults F4 3
unfolding all_definitions
second_test_too_many = refl

third_test_too_many : shown tests_program 2 ≡ faults F4 5
unfolding all_definitions
third_test_too_many = refl

statement_too_many : shown tests_program 3 ≡ faults F4 8
unfolding all_definitions
statement_too_many = refl

-- a fault in the condition of ELSE IF has its line
faulting_test : shown (codes "      IF (.FALSE.) THEN\n      K=1\n      ELSE IF (1/K.EQ.1) THEN\n      K=2\n      END IF\n      END\n") 9 ≡ faults F1 3
unfolding all_definitions
faulting_test = refl

-- no arm is executed
no_arm : shown (codes "      IF (K.EQ.1) THEN\n      K=5\n      END IF\n      PRINT '(I2)',K\n      END\n") 2 ≡ writes (codes " 0\n")
unfolding all_definitions
no_arm = refl

-- ---- logical IF: a turn, and another of the statement under it

logical_if_in_2_turns : shown (codes "      IF (.TRUE.) K=1\n      END\n") 2 ≡ ends
unfolding all_definitions
logical_if_in_2_turns = refl

logical_if_in_1_turn : shown (codes "      IF (.TRUE.) K=1\n      END\n") 1 ≡ faults F4 1
unfolding all_definitions
logical_if_in_1_turn = refl

-- the statement under a logical IF whose condition is false takes none
false_in_1_turn : shown (codes "      IF (K.EQ.1) K=1/0\n      END\n") 1 ≡ ends
unfolding all_definitions
false_in_1_turn = refl

-- the first of two faults
logical_ifs_in_range : shown (codes "      INTEGER Z\n      DO 10 I=1,8\n      IF (I.EQ.3) J=1/Z\n      IF (I.EQ.6) K=1/Z\n   10 CONTINUE\n      END\n") 99 ≡ faults F1 3
unfolding all_definitions
logical_ifs_in_range = refl

-- ---- GO TO

-- out of two DO ranges; their variables keep their values. 14 turns
abbrev out_of_two : List ℕ
out_of_two =
    codes "      DO 10 I=1,3\n      DO 10 J=1,3\n      IF (I*J.EQ.4) GO TO 20\n   10 K=K+1\n   20 WRITE (6,30) I,J,K\n   30 FORMAT (3I3)\n      END\n"

out_of_two_in_14_turns : shown out_of_two 14 ≡ writes (codes "  2  2  4\n")
unfolding all_definitions
out_of_two_in_14_turns = refl

out_of_two_in_13_turns : shown out_of_two 13 ≡ faults F4 5
unfolding all_definitions
out_of_two_in_13_turns = refl

out_of_two_in_12_turns : shown out_of_two 12 ≡ faults F4 3
unfolding all_definitions
out_of_two_in_12_turns = refl

-- to the shared terminal statement, which belongs to the inner range
to_terminal : shown (codes "      DO 10 I=1,2\n      DO 10 J=1,3\n      IF (J.EQ.2) GO TO 10\n      K=K+J\n   10 CONTINUE\n      WRITE (6,20) I,J,K\n   20 FORMAT (3I3)\n      END\n") 99 ≡ writes (codes "  3  4  8\n")
unfolding all_definitions
to_terminal = refl

-- from the outer range it is a transfer into the inner one
into_inner_range : shown (codes "      DO 10 I=1,2\n      IF (I.EQ.2) GO TO 10\n      DO 10 J=1,3\n   10 K=K+1\n      END\n") 99 ≡ record { pieces = []; ending = endings.Refused K2 2 }
unfolding all_definitions
into_inner_range = refl

into_range : shown (codes "      GO TO 10\n      DO 10 I=1,3\n   10 J=J+1\n      END\n") 99 ≡ record { pieces = []; ending = endings.Refused K2 1 }
unfolding all_definitions
into_range = refl

-- inside an arm, to END IF, which is the point behind the block IF, and to END: 9 turns
to_ends : shown (codes "      IF (K.EQ.0) THEN\n   10 K=K+1\n      IF (K.LT.2) GO TO 10\n      GO TO 20\n      K=100\n   20 END IF\n      WRITE (6,30) K\n   30 FORMAT (I3)\n      GO TO 40\n      K=1/0\n   40 END\n") 9 ≡ writes (codes "  2\n")
unfolding all_definitions
to_ends = refl

-- out of an arm
out_of_arm : shown (codes "      I=5\n      IF (I.GT.3) THEN\n      GO TO 10\n      ELSE\n      I=0\n      END IF\n      I=7\n   10 WRITE (6,20) I\n   20 FORMAT (I2)\n      END\n") 4 ≡ writes (codes " 5\n")
unfolding all_definitions
out_of_arm = refl

-- to a block IF, by the label of its IF THEN statement
to_block : shown (codes "   10 IF (K.LT.3) THEN\n      K=K+1\n      GO TO 10\n      END IF\n      PRINT '(I2)',K\n      END\n") 11 ≡ writes (codes " 3\n")
unfolding all_definitions
to_block = refl

-- to the statement itself: each transfer takes a turn
to_itself : shown (codes "      K=1\n   10 GO TO 10\n      END\n") 20 ≡ faults F4 2
unfolding all_definitions
to_itself = refl

-- backward over a DO, and to a DO statement, which begins anew
back_over_do : shown (codes "   10 K=K+1\n      DO 20 I=1,3\n      IF (K.LT.3) GO TO 10\n   20 CONTINUE\n      WRITE (6,30) I,K\n   30 FORMAT (2I2)\n      END\n") 17 ≡ writes (codes " 4 3\n")
unfolding all_definitions
back_over_do = refl

back_to_do : shown (codes "   10 DO 20 I=1,2\n   20 K=K+I\n      IF (K.LT.8) GO TO 10\n      WRITE (6,30) I,K\n   30 FORMAT (2I3)\n      END\n") 15 ≡ writes (codes "  3  9\n")
unfolding all_definitions
back_to_do = refl

-- ---- computed GO TO and arithmetic IF

-- values of -1, 0 and 3 go on with the next statement
by_counts : shown (codes "      DO 50 I=-1,3\n      GO TO (10,20),I\n      K=K*10+3\n      GO TO 50\n   10 K=K*10+1\n      GO TO 50\n   20 K=K*10+2\n   50 CONTINUE\n      WRITE (6,60) K\n   60 FORMAT (I6)\n      END\n") 99 ≡ writes (codes " 33123\n")
unfolding all_definitions
by_counts = refl

by_signs : shown (codes "      DO 40 I=-1,1\n      IF (I*5) 10,20,30\n   10 K=K*10+1\n      GO TO 40\n   20 K=K*10+2\n      GO TO 40\n   30 K=K*10+3\n   40 CONTINUE\n      WRITE (6,50) K\n   50 FORMAT (I4)\n      END\n") 99 ≡ writes (codes " 123\n")
unfolding all_definitions
by_signs = refl

next_and_stop : shown (codes "      GO TO (30,40),3\n      WRITE (6,10)\n   10 FORMAT ('NEXT')\n   30 IF (0) 40,50,40\n   40 STOP 'WRONG'\n   50 STOP 7\n      END\n") 4 ≡ record { pieces = codes "NEXT\n" ∷ []; ending = endings.Stopped (codes "7") }
unfolding all_definitions
next_and_stop = refl

-- ---- STOP

stop_silently : shown (codes "      STOP\n      K=1/0\n      END\n") 1 ≡ stops []
unfolding all_definitions
stop_silently = refl

stop_by_digits : shown (codes "      STOP 0 07\n      END\n") 1 ≡ stops (codes "007")
unfolding all_definitions
stop_by_digits = refl

stop_by_text : shown (codes "      DO 10 I=1,3\n      IF (I.EQ.2) STOP 'It''s i'\n   10 CONTINUE\n      END\n") 99 ≡ stops (codes "It's i")
unfolding all_definitions
stop_by_text = refl

stop_by_nothing : shown (codes "      STOP ''\n      END\n") 1 ≡ stops []
unfolding all_definitions
stop_by_nothing = refl

stop_too_many : shown (codes "      STOP 7\n      END\n") 0 ≡ faults F4 1
unfolding all_definitions
stop_too_many = refl

-- ---- implied DOs in output lists, which leave their variables as a DO does

implied : shown (codes "      WRITE (6,10) (I,(I*J,J=1,2),I=1,2),I,J\n   10 FORMAT (8I3)\n      END\n") 1 ≡ writes (codes "  1  1  2  2  2  4  3  3\n")
unfolding all_definitions
implied = refl

implied_backward : shown (codes "      WRITE (6,10) (I,I=3,1,-1),(J,J=5,4)\n      WRITE (6,10) I,J\n   10 FORMAT (3I3)\n      END\n") 2 ≡ record { pieces = codes "  3  2  1\n" ∷ (codes "  0  5\n" ∷ []); ending = endings.Ended }
unfolding all_definitions
implied_backward = refl

implied_step : shown (codes "      K=1\n      PRINT '(I3)',K,(I,I=1,2,0)\n      END\n") 9 ≡ faults F5 2
unfolding all_definitions
implied_step = refl

implied_overflow : shown (codes "      PRINT '(I11)',(I,I=2147483647,2147483647)\n      END\n") 9 ≡ faults F2 1
unfolding all_definitions
implied_overflow = refl

-- a fault in a list, or in its records, writes nothing, and what was given before it stays
abbrev kept_by : Result Nested Broken → List ℕ → ℤ
kept_by (Ok t) n = (run_of t 9).map n []
kept_by (Err b) n = pos 0

implied_overflow_kept : kept_by (program_of (codes "      PRINT '(I11)',(I,I=2147483646,2147483647)\n      END\n")) (codes "I") ≡ pos 2147483647
unfolding all_definitions
implied_overflow_kept = refl

implied_division_kept : kept_by (program_of (codes "      PRINT '(I11)',(I,6/(3-I),I=1,5)\n      END\n")) (codes "I") ≡ pos 3
unfolding all_definitions
implied_division_kept = refl

implied_record_kept : kept_by (program_of (codes "      PRINT '(L2)',(I,I=1,3)\n      END\n")) (codes "I") ≡ pos 4
unfolding all_definitions
implied_record_kept = refl
