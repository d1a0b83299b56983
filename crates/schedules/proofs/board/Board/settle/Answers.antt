use Rattle.std.proofs.Common.{◌∙◌}
use Rattle.schedules.proofs.Boards.{settled_once, all_ended, all_given_up}
use Rattle.schedules.proofs.board.Board.settle.Goals as goal

pub returns-clause-once : goal.returns-clause-once
returns-clause-once g c =
    settled_once _ _ _ _ c.known.ensures c.lose_rest.ensures.all c.lose_rest.ensures.idle

pub returns-clause-ended : goal.returns-clause-ended
returns-clause-ended g c =
    all_ended _ _ _ _ c.known.ensures c.lose_rest.ensures.all c.lose_rest.ensures.idle

pub returns-clause-places : goal.returns-clause-places
returns-clause-places g c =
    let ended = all_ended _ _ _ _ c.known.ensures c.lose_rest.ensures.all c.lose_rest.ensures.idle in
    all_given_up _ _ ended (c.lose_rest.ensures.places ∙ c.let_all_go.ensures.places)
