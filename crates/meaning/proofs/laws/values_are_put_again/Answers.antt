use Rattle.meaning.proofs.Advancing.{put_again}
use Rattle.meaning.proofs.laws.values_are_put_again.Goals as goal

pub returns : goal.returns
returns c = put_again
