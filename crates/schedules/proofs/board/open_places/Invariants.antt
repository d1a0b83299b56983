use Rattle.std.proofs.Common.{◌≡◌, replicate}
use Rattle.schedules.specs.declared.place.BlockSlot.TheVariants.{Open}
use Rattle.schedules.proofs.board.open_places.Given as goal

abbrev pub invariant-loop : goal.invariant-loop
invariant-loop g l = l.places.items ≡ replicate l.counter Open
