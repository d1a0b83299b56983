use Rattle.std.proofs.Common.{rules}
use Rattle.expressions.proofs.decided.Goals as goal

pub returns-else-as_logical : goal.returns-else-as_logical
returns-else-as_logical c = search rules
