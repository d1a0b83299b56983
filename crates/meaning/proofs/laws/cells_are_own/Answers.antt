use Rattle.meaning.proofs.Elements.{own_cells}
use Rattle.meaning.proofs.laws.cells_are_own.Goals as goal

pub returns : goal.returns
returns c = own_cells
