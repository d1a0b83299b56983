use Rattle.std.proofs.Common.{rules}
use Rattle.expressions.proofs.operated.Goals as goal

pub returns-in-Subtract : goal.returns-in-Subtract
returns-in-Subtract c = search rules
