use Rattle.std.proofs.Common.{◌≡◌, map, take}
use Rattle.meaning.specs.Syntax.{declarator_tree}
use Rattle.name_maps.specs.NameSets.{texts}
use Rattle.symbols.specs.SymbolsAt.{symbols_at}
use Rattle.storage.specs.Numbered.{with_variables}
use Rattle.appearances.proofs.numbers.add_declared.Given as goal

abbrev pub invariant-loop-declarator : goal.invariant-loop-declarator
invariant-loop-declarator l =
    texts l.names.keys ≡ with_variables (symbols_at l.symbols) (texts l.initial.names.keys) (map (λ d. d.name) (map declarator_tree (take l.declarator-index l.declarators)))
