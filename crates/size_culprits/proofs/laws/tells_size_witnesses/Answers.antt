use Rattle.size_culprits.proofs.Telling.{sizes_told}
use Rattle.size_culprits.proofs.laws.tells_size_witnesses.Goals as goal

pub returns : goal.returns
returns c = sizes_told
