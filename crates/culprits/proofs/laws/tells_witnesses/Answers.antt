use Rattle.culprits.proofs.Answering.{answered}
use Rattle.culprits.proofs.laws.tells_witnesses.Goals as goal

pub returns : goal.returns
returns c = answered
