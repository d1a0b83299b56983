use Rattle.std.proofs.Common.{rules}
use Rattle.block_stage.proofs.cuts.reads_place.Goals as goal

pub returns-in-Some : goal.returns-in-Some
returns-in-Some c = search rules
