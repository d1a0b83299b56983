use Rattle.rule_laws.proofs.Ready.{functions_ready}
use Rattle.rule_laws.proofs.functions_are_ready.Goals as goal

pub returns : goal.returns
returns c = functions_ready
