use Rattle.nesting_laws.proofs.Complete.{one_unit}
use Rattle.nesting_laws.proofs.one_nesting.Goals as goal

pub returns : goal.returns
returns c = one_unit
