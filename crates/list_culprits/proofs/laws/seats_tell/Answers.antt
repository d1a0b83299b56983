use Rattle.list_culprits.proofs.Seating.{seats_told}
use Rattle.list_culprits.proofs.laws.seats_tell.Goals as goal

pub returns : goal.returns
returns c = seats_told
