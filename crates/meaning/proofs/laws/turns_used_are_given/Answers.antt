use Rattle.meaning.proofs.Limits.{exec-bounded}
use Rattle.meaning.proofs.laws.turns_used_are_given.Goals as goal

pub returns : goal.returns
returns c = λ program all rest m. (exec-bounded program all rest m).spares
