use Rattle.block_stage.specs.Jobs.{data_of}
use Rattle.running_tests.proofs.staged.seen.refused_blocks.Given as goal

abbrev pub ghosts-refused_in : goal.ghosts-refused_in
ghosts-refused_in a b = record { job = data_of b.job.now }
