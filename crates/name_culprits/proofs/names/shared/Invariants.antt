use Rattle.std.proofs.Common.{◌≡◌, drop}
use Rattle.name_uses.specs.Held.{names_at}
use Rattle.name_culprits.specs.Names.{shared_in}
use Rattle.name_culprits.specs.Searched.{before_at, symbols_in}
use Rattle.name_culprits.proofs.names.shared.Given as goal

abbrev pub invariant-loop-name : goal.invariant-loop-name
invariant-loop-name l =
    shared_in (symbols_in l.search) l.giving (before_at l.search) (names_at (drop l.name-index l.names)) ≡ shared_in (symbols_in l.search) l.giving (before_at l.search) (names_at l.names)
