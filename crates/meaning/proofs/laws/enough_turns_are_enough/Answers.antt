use Rattle.meaning.proofs.Limits.{exec-bounded}
use Rattle.meaning.proofs.laws.enough_turns_are_enough.Goals as goal

pub returns : goal.returns
returns c = λ program all rest m. (exec-bounded program all rest m).frugal
