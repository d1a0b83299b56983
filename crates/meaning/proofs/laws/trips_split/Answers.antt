use Rattle.meaning.proofs.Limits.{fold_trips-append}
use Rattle.meaning.proofs.laws.trips_split.Goals as goal

pub returns : goal.returns
returns c = λ f line variable by range is js m t. fold_trips-append f line variable by range js is m t
