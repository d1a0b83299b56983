use Rattle.rule_laws.proofs.Lines.{unit_ascends, unit_in_order}
use Rattle.rule_laws.proofs.lines_ascend.Goals as goal

pub returns-clause-lines : goal.returns-clause-lines
returns-clause-lines c = unit_ascends

pub returns-clause-order : goal.returns-clause-order
returns-clause-order c = unit_in_order
