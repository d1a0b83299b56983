use Rattle.output_culprits.proofs.Telling.{outputs_told}
use Rattle.output_culprits.proofs.laws.tells_output_witnesses.Goals as goal

pub returns : goal.returns
returns c = outputs_told
