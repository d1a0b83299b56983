use Rattle.lexer.proofs.Places.{balanced_counts}
use Rattle.lexer.proofs.laws.balanced_by_counts.Goals as goal

pub returns : goal.returns
returns c = balanced_counts
