-- What is told of a stage.
use Rattle.std.proofs.Common.{ℕ, zero, suc, ◌≤◌, arith}
use Rattle.block_stage.specs.Cuts.{IsCut, turns_to}
use Rattle.block_stage.specs.Jobs.{data_of}
use Rattle.block_stage.specs.Stages.{ArePosted, PostedParts}
use Rattle.block_stage.proofs.Commits.{turns_fit}

-- the turns of what is committed
pub turns_within : (p : PostedParts) (c : ℕ) → ArePosted p → IsCut p.job.turns_left p.places c → turns_to p.places c ≤ p.job.turns_left
turns_within p zero known_of is = omega arith
turns_within p (suc c) known_of is =
    turns_fit (data_of p.job) known_of.job.long known_of.job.last known_of.job.unset p.places known_of.faithful (suc c) (omega arith) is.least
