use Rattle.std.proofs.Common.{◌≡◌, take}
use Rattle.meaning.specs.NameRules.{greatest}
use Rattle.name_uses.specs.UsesAt.{uses_at}
use Rattle.function_rules.specs.Measured.{level_at}
use Rattle.function_rules.proofs.measures.deepest.Given as goal

abbrev pub invariant-loop-one : goal.invariant-loop-one
invariant-loop-one l = l.deepest ≡ greatest (level_at l.kept) (uses_at (take l.one-index l.uses))
