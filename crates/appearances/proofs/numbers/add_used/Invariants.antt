use Rattle.std.proofs.Common.{◌≡◌, map, take}
use Rattle.name_maps.specs.NameSets.{texts}
use Rattle.symbols.specs.SymbolsAt.{symbols_at}
use Rattle.name_uses.specs.UsesAt.{uses_at}
use Rattle.storage.specs.Numbered.{with_variables}
use Rattle.appearances.proofs.numbers.add_used.Given as goal

abbrev pub invariant-loop-one : goal.invariant-loop-one
invariant-loop-one l =
    texts l.names.keys ≡ with_variables (symbols_at l.symbols) (texts l.initial.names.keys) (map (λ u. u.name) (uses_at (take l.one-index l.uses)))
