use Rattle.std.proofs.Common.{◌≡◌, ◌≤◌, map}
use Rattle.schedules.specs.Boards.{AreIdle, given_up}
use Rattle.schedules.proofs.board.Board.lose_rest.Given as goal

abbrev pub invariant-loop : goal.invariant-loop
invariant-loop g l =
    AreIdle l.self.outs × (l.counter ≤ l.self.next) × (l.blocks ≡ g.T.Numbered.blocks) × (map given_up l.self.places ≡ map given_up l.fn.self.places)
