use Rattle.nesting_laws.proofs.RuleTold.{told_of, told_is}
use Rattle.nesting_laws.proofs.rule_told.Goals as goal

pub returns : goal.returns
returns c = λ items b. (told_of items b, told_is items b)
