use Rattle.std.proofs.Common.{◌≡◌, drop}
use Rattle.meaning.specs.Reading.{first_operator_at}
use Rattle.parser.proofs.token.read_first_operator.Given as goal

abbrev pub invariant-loop-operator : goal.invariant-loop-operator
invariant-loop-operator l = first_operator_at (drop l.operator-index l.operators) l.text ≡ first_operator_at l.operators l.text
