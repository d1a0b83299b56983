use Rattle.std.proofs.Common.{rules}
use Rattle.evaluator.proofs.passed.behind_range.Goals as goal

pub returns-in-Normal : goal.returns-in-Normal
returns-in-Normal c = search rules
