use Rattle.std.proofs.Common.{◌≡◌, [], drop}
use Rattle.name_uses.specs.Held.{names_at}
use Rattle.name_culprits.specs.Names.{again_in}
use Rattle.name_culprits.specs.Searched.{before_at, symbols_in}
use Rattle.name_culprits.proofs.names.again.Given as goal

abbrev pub invariant-loop-name : goal.invariant-loop-name
invariant-loop-name l =
    again_in (symbols_in l.search) l.giving (before_at l.search) l.search.line (names_at l.earlier.items) (names_at (drop l.name-index l.names)) ≡ again_in (symbols_in l.search) l.giving (before_at l.search) l.search.line [] (names_at l.names)
