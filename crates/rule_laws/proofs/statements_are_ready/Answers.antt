use Rattle.rule_laws.proofs.Ready.{statements_ready}
use Rattle.rule_laws.proofs.statements_are_ready.Goals as goal

pub returns : goal.returns
returns c = statements_ready
