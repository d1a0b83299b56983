use Rattle.meaning.proofs.Limits.{exec-bounded}
use Rattle.meaning.proofs.laws.more_turns_change_nothing.Goals as goal

pub returns : goal.returns
returns c = λ program all rest m. (exec-bounded program all rest m).steady
