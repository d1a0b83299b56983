use Rattle.std.proofs.Common.{rules}
use Rattle.marks.proofs.marks.clear_by.Goals as goal

pub returns-clause-left : goal.returns-clause-left
returns-clause-left c = search rules
