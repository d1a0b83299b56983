use Rattle.std.proofs.Common.{rules, ◌≡◌, ◌<◌, Some, None, length, slice_get}
use Rattle.std.proofs.lemmas.Option.{slice_get_within}
use Rattle.schedules.proofs.Boards.{room_to_claim, claimed_board, roomier}
use Rattle.schedules.proofs.board.Board.claim_in.Goals as goal

pub note-requires : goal.note-requires
note-requires g c =
    let left : c.self.inside.next < length c.self.inside.places.items = search rules in
    let room = room_to_claim _ _ _ _ c.self.invariant left in
    record { room = search rules }

pub index_mut-requires : goal.index_mut-requires
index_mut-requires g c =
    let idle : slice_get c.self.inside.outs.items c.args.worker ≡ Some None = search rules in
    let inside = slice_get_within c.self.inside.outs.items c.args.worker None idle in search rules

pub invariant_of-self : goal.invariant_of-self
invariant_of-self g c =
    let left : c.self.inside.next < length c.self.inside.places.items = search rules in
    let idle : slice_get c.self.inside.outs.items c.args.worker ≡ Some None = search rules in
    rw c.note.ensures.items (roomier _ _ _ _ _ c.note.ensures.capacity (claimed_board _ _ _ _ _ c.self.invariant left idle))

pub returns-then-self-len-clause-claims : goal.returns-then-self-len-clause-claims
returns-then-self-len-clause-claims g c = search rules

pub returns-clause-claims : goal.returns-clause-claims
returns-clause-claims g c = search rules
