use Rattle.rule_laws.proofs.Heads.{heads_execute}
use Rattle.rule_laws.proofs.functions_stand_first.Goals as goal

pub returns : goal.returns
returns c = λ source t arrays is. heads_execute arrays source t is
