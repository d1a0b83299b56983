use Rattle.rule_laws.proofs.Short.{evaluated_short, set_short}
use Rattle.rule_laws.proofs.expressions_are_short.Goals as goal

pub returns-clause-evaluated : goal.returns-clause-evaluated
returns-clause-evaluated c = evaluated_short

pub returns-clause-elements : goal.returns-clause-elements
returns-clause-elements c = set_short
