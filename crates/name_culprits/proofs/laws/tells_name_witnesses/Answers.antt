use Rattle.name_culprits.proofs.Telling.{names_told}
use Rattle.name_culprits.proofs.laws.tells_name_witnesses.Goals as goal

pub returns : goal.returns
returns c = names_told
