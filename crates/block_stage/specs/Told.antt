-- What is told of a stage (own).
use Rattle.std.specs.Prelude.{◌≡◌, ℕ, length, is_some, count_by}
use Rattle.block_stage.specs.declared.told.StageStats.{StageStats}
use Rattle.block_stage.specs.Causes.{IsCause}
use Rattle.block_stage.specs.Cuts.{longest_in, turns_posted, turns_to}
use Rattle.block_stage.specs.Stages.{PostedParts}

-- what is told of what was posted, where it is cut there
pub record IsStageStats (p : PostedParts) (c : ℕ) (s : StageStats) : Type 0 where
  pub trips : s.trips ≡ p.job.trips
  pub size : s.size ≡ p.job.block_size
  pub blocks : s.blocks ≡ length p.places
  pub run : s.run ≡ count_by is_some p.places
  pub cut : s.cut ≡ c
  pub turns : s.turns ≡ turns_to p.places c
  pub spent : s.spent ≡ turns_posted p.places
  pub longest : s.longest ≡ longest_in p.places
  pub cause : IsCause p.job.turns_left p.places c s.cause
