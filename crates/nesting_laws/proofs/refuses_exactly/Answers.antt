use Rattle.nesting_laws.proofs.Refused.{refused_of, refused_is}
use Rattle.nesting_laws.proofs.refuses_exactly.Goals as goal

pub returns : goal.returns
returns c = λ items b. (refused_of items b, refused_is items b)
