use Rattle.std.proofs.Common.{◌≡◌, take, false}
use Rattle.std.specs.List.{list_any}
use Rattle.block_stage.specs.Cuts.{reads_place}
use Rattle.block_stage.proofs.causes.carried.Given as goal

abbrev pub invariant-loop-at : goal.invariant-loop-at
invariant-loop-at l = list_any (reads_place l.trace) (take l.at l.earlier) ≡ false
