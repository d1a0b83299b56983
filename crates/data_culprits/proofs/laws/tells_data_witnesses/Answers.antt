use Rattle.data_culprits.proofs.Telling.{data_told}
use Rattle.data_culprits.proofs.laws.tells_data_witnesses.Goals as goal

pub returns : goal.returns
returns c = data_told
