use Rattle.std.proofs.Common.{◌≡◌, map, length}
use Rattle.schedules.specs.Boards.{AreIdleBelow, given_up}
use Rattle.schedules.proofs.board.Board.let_all_go.Given as goal

abbrev pub invariant-loop-worker : goal.invariant-loop-worker
invariant-loop-worker g l =
    AreIdleBelow l.worker l.self.outs × (l.workers ≡ length l.self.outs) × (map given_up l.self.places ≡ map given_up l.fn.self.places)
