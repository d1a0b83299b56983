use Rattle.c_library.proofs.Limited.{turns_within}
use Rattle.c_library.proofs.exports.f77run_run.Goals as goal

pub returns-clause-limited : goal.returns-clause-limited
returns-clause-limited c = rw c.tell.ensures.told.turns (turns_within _ _ _ _ _ c.run_kept-ended.ensures)
