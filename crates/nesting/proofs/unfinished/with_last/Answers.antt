use Rattle.std.proofs.Common.{refl}
use Rattle.nesting.proofs.Pushes.{tree_push}
use Rattle.nesting.proofs.unfinished.with_last.Goals as goal

pub returns-in-Ok : goal.returns-in-Ok
returns-in-Ok c = rw (c.in-Ok.ensures.items, tree_push) refl
