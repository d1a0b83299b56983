use Rattle.meaning.specs.Trees.{flatten}
use Rattle.rule_laws.proofs.Sizes.{arrays_sized}
use Rattle.rule_laws.proofs.Unbroken.{all_lawful}
use Rattle.rule_laws.proofs.arrays_are_sized.Goals as goal

pub returns : goal.returns
returns c = λ t accepted n dims is. (arrays_sized (flatten t) (all_lawful t accepted) n dims is).dimensions
