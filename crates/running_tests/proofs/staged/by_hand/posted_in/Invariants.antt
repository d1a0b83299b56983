use Rattle.std.proofs.Common.{◌≡◌}
use Rattle.running_tests.proofs.staged.by_hand.posted_in.Given as goal

abbrev pub invariant-loop-step : goal.invariant-loop-step
invariant-loop-step g l = l.board.job ≡ l.fn.job
