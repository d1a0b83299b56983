use Rattle.meaning.proofs.Transferred.{each_arrives}
use Rattle.meaning.proofs.laws.transfers_arrive.Goals as goal

pub returns : goal.returns
returns c = each_arrives
