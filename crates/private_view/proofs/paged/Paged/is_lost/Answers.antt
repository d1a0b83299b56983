use Rattle.std.proofs.Common.{rules}
use Rattle.private_view.proofs.paged.Paged.is_lost.Goals as goal

pub returns : goal.returns
returns c = search rules
