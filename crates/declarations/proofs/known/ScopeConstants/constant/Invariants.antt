use Rattle.std.proofs.Common.{◌≡◌, take}
use Rattle.declarations.specs.Tables.{known_at, with_own}
use Rattle.declarations.proofs.known.ScopeConstants.constant.Given as goal

abbrev pub invariant-loop-own : goal.invariant-loop-own
invariant-loop-own l = l.found ≡ with_own (known_at l.self.table.now) (take l.own-index l.self.own.items) l.name
