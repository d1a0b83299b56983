use Rattle.std.proofs.Common.{rules}
use Rattle.marks.proofs.marks.Marks.put_in.Goals as goal

pub returns-clause-ok : goal.returns-clause-ok
returns-clause-ok c = search rules
