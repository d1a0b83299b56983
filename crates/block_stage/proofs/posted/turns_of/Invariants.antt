use Rattle.std.proofs.Common.{◌≡◌, take}
use Rattle.block_stage.specs.Cuts.{turns_posted}
use Rattle.block_stage.proofs.posted.turns_of.Given as goal

abbrev pub invariant-loop-place : goal.invariant-loop-place
invariant-loop-place l = l.sum ≡ turns_posted (take l.place-index l.places)
