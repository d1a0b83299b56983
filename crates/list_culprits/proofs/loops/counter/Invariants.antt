use Rattle.std.proofs.Common.{◌≡◌, map, drop}
use Rattle.list_culprits.specs.Loops.{counter_of}
use Rattle.list_culprits.specs.Seats.{opener_at}
use Rattle.list_culprits.proofs.loops.counter.Given as goal

abbrev pub invariant-loop-opener : goal.invariant-loop-opener
invariant-loop-opener l =
    counter_of (map opener_at (drop l.opener-index l.openers)) l.name ≡ counter_of (map opener_at l.openers) l.name
