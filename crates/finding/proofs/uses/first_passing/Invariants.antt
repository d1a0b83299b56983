use Rattle.std.proofs.Common.{◌≡◌, drop}
use Rattle.std.specs.List.{find}
use Rattle.name_uses.specs.UsesAt.{uses_at}
use Rattle.finding.proofs.uses.first_passing.Given as goal

abbrev pub invariant-loop-one : goal.invariant-loop-one
invariant-loop-one g l =
    find (g.S.Sought.is_use l.sought) (uses_at (drop l.one-index l.found)) ≡ find (g.S.Sought.is_use l.sought) (uses_at l.found)
