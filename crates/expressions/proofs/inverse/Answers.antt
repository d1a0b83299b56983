use Rattle.std.proofs.Common.{rules}
use Rattle.expressions.proofs.Powers.{inverse-one, inverse-minus_one, inverse-other, inverse-none}
use Rattle.expressions.proofs.inverse.Goals as goal

pub returns-then-power-eq1 : goal.returns-then-power-eq1
returns-then-power-eq1 c = λ z exact. inverse-one c.args.power z exact (search rules)

pub returns-then-power : goal.returns-then-power
returns-then-power c = λ z exact. inverse-minus_one c.args.power z exact (search rules)

pub returns-else-power : goal.returns-else-power
returns-else-power c = λ z exact. inverse-other c.args.power z exact c.in-Some.power c.in-Some.is (search rules) (search rules)

pub returns-in-None : goal.returns-in-None
returns-in-None c = λ z exact. inverse-none c.args.power z exact c.in-None.is
