use Rattle.meaning.specs.Trees.{flatten}
use Rattle.rule_laws.proofs.Read.{unit_read}
use Rattle.rule_laws.proofs.Short.{bodies_short}
use Rattle.rule_laws.proofs.bodies_are_short.Goals as goal

pub returns : goal.returns
returns c = λ source t arrays is. bodies_short arrays (flatten t) (unit_read source t is)
