use Rattle.std.proofs.Common.{◌*◌, ◌+◌, ◌-◌}
use Rattle.workers.proofs.crew.+line.Given as goal

abbrev pub decreases-join+arg3 : goal.decreases-join+arg3
decreases-join+arg3 g l = 2 * (l.worker - 1) + 1

abbrev pub decreases-work_up_to : goal.decreases-work_up_to
decreases-work_up_to g l = 2 * l.worker
