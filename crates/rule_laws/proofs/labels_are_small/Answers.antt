use Rattle.rule_laws.proofs.Short.{transfers_small}
use Rattle.rule_laws.proofs.labels_are_small.Goals as goal

pub returns : goal.returns
returns c = λ s r. transfers_small s r.well
