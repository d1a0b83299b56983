use Rattle.std.proofs.Common.{◌≡◌, [], take}
use Rattle.symbols.specs.Listed.{trees_at}
use Rattle.name_maps.specs.NameSets.{texts}
use Rattle.symbols.specs.SymbolsAt.{symbols_at}
use Rattle.symbols.specs.Stages.{IsBehind}
use Rattle.storage.specs.Numbered.{names_from, with_variables}
use Rattle.appearances.proofs.numbers.names_appearing.Given as goal

abbrev pub invariant-loop-item : goal.invariant-loop-item
invariant-loop-item l =
    (texts l.names.keys ≡ with_variables (symbols_at l.symbols) [] (names_from (symbols_at l.symbols) [] (trees_at (take l.item-index l.symbols.items.now))))
    × (IsBehind l.symbols l.stage (trees_at (take l.item-index l.symbols.items.now)))
