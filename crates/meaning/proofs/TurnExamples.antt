-- The turns that programs use, told with every ending that their statements bring about.
use Rattle.std.proofs.Common.{◌≡◌, ℕ, Some, refl}
use Rattle.std.specs.Prelude.{codes}
use Rattle.meaning.specs.declared.ending.Ending.{Ending}
use Rattle.meaning.specs.declared.ending.Ending.TheVariants as endings
use Rattle.meaning.specs.declared.ending.FaultKind.{FaultKind}
use Rattle.meaning.specs.declared.ending.FaultKind.TheVariants.{F1, F2, F4}
use Rattle.meaning.specs.Answers.{answer, report}
use Rattle.meaning.proofs.Examples.{first_program, all_definitions}

abbrev faulted : FaultKind → ℕ → Ending
faulted kind line = endings.Fault (record { kind = kind; line = line })

one_write : (answer first_program 99).ending ≡ report endings.Ended (Some 1)
unfolding all_definitions
one_write = refl

chain : (answer (codes "      INTEGER A(9)\n      DO 10 I=2,9\n   10 A(I)=A(I-1)+1\n      WRITE (6,20) A(9)\n   20 FORMAT (I3)\n      END\n") 99).ending ≡ report endings.Ended (Some 10)
unfolding all_definitions
chain = refl

first_fault : (answer (codes "      INTEGER Z\n      DO 10 I=1,8\n      IF (I.EQ.3) J=1/Z\n      IF (I.EQ.6) K=1/Z\n   10 CONTINUE\n      END\n") 99).ending ≡ report (faulted F1 3) (Some 9)
unfolding all_definitions
first_fault = refl

limit_met : (answer (codes "      INTEGER K(100)\n      DO 10 I=1,100\n   10 K(I)=I\n      END\n") 50).ending ≡ report (faulted F4 3) (Some 50)
unfolding all_definitions
limit_met = refl

addition_faults : (answer (codes "      DO 10 I=2147483646,2147483647\n   10 J=J+1\n      END\n") 99).ending ≡ report (faulted F2 1) (Some 3)
unfolding all_definitions
addition_faults = refl

left_early : (answer (codes "      INTEGER A(16),B(16)\n      DATA A/4*1,0,11*1/\n      DO 10 I=1,16\n      IF (A(I).EQ.0) GO TO 20\n   10 B(I)=1\n   20 WRITE (6,30) I,B(4),B(5),B(6),B(16)\n   30 FORMAT (5I4)\n      END\n") 99).ending ≡ report endings.Ended (Some 12)
unfolding all_definitions
left_early = refl
