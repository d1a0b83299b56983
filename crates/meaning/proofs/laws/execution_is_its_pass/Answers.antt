use Rattle.meaning.proofs.Running.{exec_is}
use Rattle.meaning.proofs.laws.execution_is_its_pass.Goals as goal

pub returns : goal.returns
returns c = λ program all rest m t. exec_is program all rest m t
