use Rattle.std.proofs.Common.{rules, ◌*◌, ◌≤◌, vec_capacity}
use Rattle.schedules.proofs.Boards.{first_board}
use Rattle.schedules.proofs.board.Board.new.Goals as goal

pub invariant_of-result : goal.invariant_of-result
invariant_of-result g c =
    let roomy : 2 * c.args.blocks ≤ vec_capacity c.in_ok-events.events = search rules in
    rw (← c.requires.blocks, c.in_ok-outs.ensures, c.in_ok-places.ensures, c.in_ok-events.ensures.items) (first_board _ _ _ _ c.requires.workers (search rules) (search rules) roomy)
