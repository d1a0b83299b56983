use Rattle.std.proofs.Common.{rules}
use Rattle.private_view.proofs.view.View.into_changes.Goals as goal

pub returns : goal.returns
returns c = search rules
