use Rattle.meaning.proofs.Advancing.{fold_trips-number}
use Rattle.meaning.proofs.laws.their_number_counts.Goals as goal

pub returns : goal.returns
returns c = λ f line v by range is js e m t. fold_trips-number f line v by range is js e m t
