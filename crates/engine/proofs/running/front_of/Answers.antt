use Rattle.engine.proofs.Front.{front_known}
use Rattle.engine.proofs.running.front_of.Goals as goal

pub returns : goal.returns
returns g c =
    front_known g.I.Read.remaining _ _ _ _ c.take.ensures.limit c.take.ensures.inner c.new-source.ensures.items c.in_ok-read_to_end.ensures.bytes
