use Rattle.std.proofs.Common.{◌≡◌, take}
use Rattle.meaning.specs.NameRules.{names_used}
use Rattle.name_uses.specs.UsesAt.{uses_at}
use Rattle.name_uses.specs.Held.{names_at}
use Rattle.name_uses.proofs.seen.names_passing.Given as goal

abbrev pub invariant-loop-one : goal.invariant-loop-one
invariant-loop-one g l = names_at l.names.items ≡ names_used (g.S.Sought.is_use l.sought) (uses_at (take l.one-index l.uses))
