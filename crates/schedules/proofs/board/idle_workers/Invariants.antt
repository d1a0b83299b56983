use Rattle.std.proofs.Common.{◌≡◌, None, replicate}
use Rattle.schedules.proofs.board.idle_workers.Given as goal

abbrev pub invariant-loop : goal.invariant-loop
invariant-loop l = l.outs.items ≡ replicate l.counter None
