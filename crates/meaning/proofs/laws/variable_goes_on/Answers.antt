use Rattle.meaning.proofs.Advancing.{fold_trips-goes_on}
use Rattle.meaning.proofs.laws.variable_goes_on.Goals as goal

pub returns : goal.returns
returns c = λ program line v by range never is m t h. fold_trips-goes_on program line v by range never is m t h
