use Rattle.std.proofs.Common.{rules}
use Rattle.schedules.proofs.board.note.Goals as goal

pub returns-clause-items : goal.returns-clause-items
returns-clause-items c = search rules
