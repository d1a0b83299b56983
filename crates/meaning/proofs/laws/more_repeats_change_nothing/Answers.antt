use Rattle.meaning.proofs.Repeats.{same_records}
use Rattle.meaning.proofs.laws.more_repeats_change_nothing.Goals as goal

pub returns : goal.returns
returns c = same_records
