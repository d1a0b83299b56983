use Rattle.executor.proofs.run.run_keeping.Goals as goal

pub returns-then-workers-lt2-clause-promise : goal.returns-then-workers-lt2-clause-promise
returns-then-workers-lt2-clause-promise g c = rw c.turns.ensures.is at c.run_by.ensures.promise

pub returns-clause-promise : goal.returns-clause-promise
returns-clause-promise g c = rw c.turns-2.ensures.is at c.run_by-2.ensures.promise
