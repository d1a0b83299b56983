use Rattle.list_culprits.proofs.Telling.{list_witnesses}
use Rattle.list_culprits.proofs.laws.tells_list_witnesses.Goals as goal

pub returns : goal.returns
returns c = list_witnesses
