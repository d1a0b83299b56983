use Rattle.number_culprits.proofs.Telling.{numbers_told}
use Rattle.number_culprits.proofs.laws.tells_number_witnesses.Goals as goal

pub returns : goal.returns
returns c = numbers_told
