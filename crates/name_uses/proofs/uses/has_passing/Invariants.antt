use Rattle.std.proofs.Common.{◌≡◌, drop}
use Rattle.std.specs.List.{list_any}
use Rattle.name_uses.specs.UsesAt.{uses_at}
use Rattle.name_uses.proofs.uses.has_passing.Given as goal

abbrev pub invariant-loop-one : goal.invariant-loop-one
invariant-loop-one g l =
    list_any (g.S.Sought.is_use l.sought) (uses_at (drop l.one-index l.found)) ≡ list_any (g.S.Sought.is_use l.sought) (uses_at l.found)
