use Rattle.std.proofs.Common.{rules, Some}
use Rattle.std.proofs.lemmas.Option.{slice_get_within}
use Rattle.schedules.specs.Schedules.{IsOut}
use Rattle.schedules.proofs.Boards.{room_to_end, place_of_out, posted_board, roomier}
use Rattle.schedules.proofs.board.Board.post_in.Goals as goal

pub note-requires : goal.note-requires
note-requires g c =
    let out : IsOut c.self.inside.outs.items c.args.ticket = search rules in
    let room = room_to_end _ _ _ _ c.args.ticket c.self.invariant out in
    record { room = search rules }

pub index_mut-requires : goal.index_mut-requires
index_mut-requires g c =
    let out : IsOut c.self.inside.outs.items c.args.ticket = search rules in
    let inside = slice_get_within c.self.inside.outs.items c.args.ticket.worker (Some c.args.ticket.block) out in search rules

pub index_mut-requires-2 : goal.index_mut-requires-2
index_mut-requires-2 g c =
    let out : IsOut c.self.inside.outs.items c.args.ticket = search rules in
    let inside = place_of_out _ _ _ _ c.args.ticket c.self.invariant out in search rules

pub invariant_of-self : goal.invariant_of-self
invariant_of-self g c =
    let out : IsOut c.self.inside.outs.items c.args.ticket = search rules in
    rw c.note.ensures.items (roomier _ _ _ _ _ c.note.ensures.capacity (posted_board _ _ _ _ c.args.ticket c.args.run c.self.invariant out c.requires))

pub returns-clause-put : goal.returns-clause-put
returns-clause-put g c = search rules
