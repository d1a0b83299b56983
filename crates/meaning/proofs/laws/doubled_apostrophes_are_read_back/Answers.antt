use Rattle.meaning.proofs.Doubled.{read_back}
use Rattle.meaning.proofs.laws.doubled_apostrophes_are_read_back.Goals as goal

pub returns : goal.returns
returns c = read_back
