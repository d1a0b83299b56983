use Rattle.std.proofs.Common.{rules}
use Rattle.array_store.proofs.whole.Whole.cells.Goals as goal

pub returns : goal.returns
returns c = search rules
