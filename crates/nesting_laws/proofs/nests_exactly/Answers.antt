use Rattle.nesting_laws.proofs.Read.{read_nests}
use Rattle.nesting_laws.proofs.Complete.{nests_read}
use Rattle.nesting_laws.proofs.nests_exactly.Goals as goal

pub returns : goal.returns
returns c = λ items t. (read_nests items t, nests_read items t)
