use Rattle.meaning.specs.Trees.{flatten}
use Rattle.rule_laws.proofs.Cells.{array_cell}
use Rattle.rule_laws.proofs.Unbroken.{all_lawful}
use Rattle.rule_laws.proofs.arrays_are_stored.Goals as goal

pub returns : goal.returns
returns c = λ t accepted n dims is. array_cell (flatten t) (all_lawful t accepted) n dims is
