use Rattle.std.proofs.Common.{◌≡◌}
use Rattle.block_stage.specs.Cuts.{turns_to}
use Rattle.block_stage.proofs.posted.turns_before.Given as goal

abbrev pub invariant-loop-at : goal.invariant-loop-at
invariant-loop-at l = l.turns ≡ turns_to l.places l.at
