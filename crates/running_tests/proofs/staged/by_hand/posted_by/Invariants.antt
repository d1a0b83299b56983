use Rattle.block_stage.specs.Jobs.{data_of}
use Rattle.running_tests.proofs.staged.by_hand.posted_by.Given as goal

abbrev pub ghosts-posted_in : goal.ghosts-posted_in
ghosts-posted_in a b = record { job = data_of b.job.now }
