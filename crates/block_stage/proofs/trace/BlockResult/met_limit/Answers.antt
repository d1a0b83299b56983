use Rattle.std.proofs.Common.{rules}
use Rattle.block_stage.proofs.trace.BlockResult.met_limit.Goals as goal

pub returns-in-Fault : goal.returns-in-Fault
returns-in-Fault c = search rules
