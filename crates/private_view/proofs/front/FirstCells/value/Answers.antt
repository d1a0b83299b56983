use Rattle.std.proofs.Common.{rules}
use Rattle.private_view.proofs.front.FirstCells.value.Goals as goal

pub returns-then-self-place-clause-some : goal.returns-then-self-place-clause-some
returns-then-self-place-clause-some c = search rules
