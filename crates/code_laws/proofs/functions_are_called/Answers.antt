use Rattle.code_laws.proofs.Functions.{called_before}
use Rattle.code_laws.proofs.functions_are_called.Goals as goal

pub returns : goal.returns
returns c = λ s fs codes. called_before s.names s.numbers s.cells fs codes s.callable s.dummies
