use Rattle.rule_laws.proofs.Read.{unit_read}
use Rattle.rule_laws.proofs.statements_are_read.Goals as goal

pub returns : goal.returns
returns c = unit_read
