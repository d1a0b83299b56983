use Rattle.rule_laws.proofs.Unbroken.{all_lawful}
use Rattle.rule_laws.proofs.each_is_lawful.Goals as goal

pub returns : goal.returns
returns c = all_lawful
