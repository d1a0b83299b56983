-- What is told of a rule on lists is a witness.
use Rattle.meaning.specs.Trees.{Nested}
use Rattle.list_culprits.specs.Seats.{Seat}
use Rattle.list_culprits.specs.Witness.{TellsWitnesses}
use Rattle.list_culprits.proofs.Looping.{loops_told}
use Rattle.list_culprits.proofs.Missing.{transfers_told}

pub list_witnesses : (t : Nested) (z : Seat) → TellsWitnesses t z
list_witnesses t z = record { missed = transfers_told t z; looped = loops_told t z }
