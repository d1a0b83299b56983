use Rattle.evaluator.proofs.Parted.{begins_if, alone, steps_by}
use Rattle.evaluator.proofs.statement.first_part.Goals as goal

pub returns-in-Some-clause-begins : goal.returns-in-Some-clause-begins
returns-in-Some-clause-begins c = λ t s line acts quiet.
    begins_if t line s c.in-Some.code.now c.in-Some.under (c.in-Some.ensures t s acts) quiet

pub returns-in-None-clause-begins : goal.returns-in-None-clause-begins
returns-in-None-clause-begins c = λ t s line acts quiet.
    steps_by t line s c.assignment_part.result (alone t line s (c.in-None.ensures t s acts) quiet) (c.assignment_part.ensures.begins t s line acts)
