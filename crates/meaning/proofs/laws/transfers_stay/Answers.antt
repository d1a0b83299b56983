use Rattle.meaning.proofs.Transferred.{stays}
use Rattle.meaning.proofs.laws.transfers_stay.Goals as goal

pub returns : goal.returns
returns c = stays
