use Rattle.in_order.proofs.run.run_in_order.Goals as goal

pub returns-clause-promise : goal.returns-clause-promise
returns-clause-promise g c = rw c.turns.ensures.is at c.run_by.ensures.promise
