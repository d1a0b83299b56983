use Rattle.rule_laws.proofs.Count.{few_cells}
use Rattle.rule_laws.proofs.cells_are_few.Goals as goal

pub returns : goal.returns
returns c = few_cells
