use Rattle.std.proofs.Common.{◌≡◌, true}
use Rattle.schedules.specs.Schedules.{IsOut}
use Rattle.schedules.proofs.Boards.{lets_go, lets_nothing}
use Rattle.schedules.proofs.board.Board.let_go.Goals as goal

pub returns-in-Some : goal.returns-in-Some
returns-in-Some g c =
    let out : IsOut c.args.self.now.outs (record { worker = c.args.worker; block = c.in-Some.block }) = (c.out_of.ensures c.in-Some.block).0 c.in-Some.is in
    let yes : c.lose_in.result ≡ true = c.lose_in.ensures.is.1 out in
    rw (c.lose_in.ensures.gone, yes) (lets_go _ _ _ _ _ _ c.known.ensures out)

pub returns-in_default : goal.returns-in_default
returns-in_default g c =
    lets_nothing _ _ (λ b got. absurd (let is = (c.out_of.ensures b).1 got in let none = c.in_default.not-Some in cc))
