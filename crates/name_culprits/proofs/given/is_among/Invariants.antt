use Rattle.std.proofs.Common.{◌≡◌, drop}
use Rattle.meaning.specs.Uses.{is_one_of}
use Rattle.name_uses.specs.Held.{names_at}
use Rattle.name_culprits.proofs.given.is_among.Given as goal

abbrev pub invariant-loop-one : goal.invariant-loop-one
invariant-loop-one l = is_one_of (names_at (drop l.one-index l.names)) l.name ≡ is_one_of (names_at l.names) l.name
