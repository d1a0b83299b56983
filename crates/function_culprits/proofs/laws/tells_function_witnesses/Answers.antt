use Rattle.function_culprits.proofs.Defining.{functions_told}
use Rattle.function_culprits.proofs.laws.tells_function_witnesses.Goals as goal

pub returns : goal.returns
returns c = functions_told
