use Rattle.block_stage.specs.Jobs.{data_of}
use Rattle.block_stage.proofs.stage.run_stage_in.Given as goal

abbrev pub ghosts-stage_of : goal.ghosts-stage_of
ghosts-stage_of a b = record { job = data_of b.job.now }
