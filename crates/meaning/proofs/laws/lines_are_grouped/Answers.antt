use Rattle.meaning.proofs.Groups.{grouped}
use Rattle.meaning.proofs.laws.lines_are_grouped.Goals as goal

pub returns : goal.returns
returns c = grouped
