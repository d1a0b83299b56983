use Rattle.meaning.proofs.Lasting.{leave_variables}
use Rattle.meaning.proofs.laws.ranges_leave_variables.Goals as goal

pub returns : goal.returns
returns c = leave_variables
