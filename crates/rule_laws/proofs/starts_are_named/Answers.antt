use Rattle.meaning.specs.Trees.{flatten}
use Rattle.rule_laws.proofs.Data.{starts_are_named as names_given}
use Rattle.rule_laws.proofs.Unbroken.{all_lawful}
use Rattle.rule_laws.proofs.starts_are_named.Goals as goal

pub returns : goal.returns
returns c = λ t accepted. names_given (flatten t) (all_lawful t accepted)
