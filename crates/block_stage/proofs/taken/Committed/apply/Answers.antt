use Rattle.std.proofs.Common.{rules}
use Rattle.block_stage.proofs.taken.Committed.apply.Goals as goal

pub returns-clause-map : goal.returns-clause-map
returns-clause-map c = search rules
