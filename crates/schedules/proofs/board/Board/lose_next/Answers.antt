use Rattle.schedules.proofs.Boards.{loses_claimed}
use Rattle.schedules.proofs.board.Board.lose_next.Goals as goal

pub returns-in-Some : goal.returns-in-Some
returns-in-Some g c =
    loses_claimed _ _ _ _ _ _ c.in-Some.ticket c.lose_in.result c.known.ensures c.requires c.in-Some.ensures.claims c.lose_in.ensures.is c.lose_in.ensures.gone
