use Rattle.type_culprits.proofs.Telling.{types_told}
use Rattle.type_culprits.proofs.laws.tells_type_witnesses.Goals as goal

pub returns : goal.returns
returns c = types_told
