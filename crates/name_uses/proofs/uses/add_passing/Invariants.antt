use Rattle.std.proofs.Common.{◌≡◌, ◌++◌, take}
use Rattle.std.specs.List.{filter}
use Rattle.name_uses.specs.UsesAt.{uses_at}
use Rattle.name_uses.proofs.uses.add_passing.Given as goal

abbrev pub invariant-loop-one : goal.invariant-loop-one
invariant-loop-one g l =
    uses_at l.uses.items ≡ uses_at l.initial.uses.items ++ filter (g.S.Sought.is_use l.sought) (uses_at (take l.one-index l.found))
