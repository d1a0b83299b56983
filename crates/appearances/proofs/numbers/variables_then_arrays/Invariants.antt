use Rattle.std.proofs.Common.{◌≡◌, [], take}
use Rattle.meaning.specs.Uses.{is_array, is_other}
use Rattle.name_maps.specs.NameSets.{texts}
use Rattle.symbols.specs.SymbolsAt.{symbols_at}
use Rattle.storage.specs.Numbered.{with_those}
use Rattle.appearances.proofs.numbers.variables_then_arrays.Given as goal

abbrev pub invariant-variables : goal.invariant-variables
invariant-variables l =
    texts l.ordered.keys ≡ with_those (is_other (symbols_at l.symbols)) [] (texts (take l.name-index l.names))

abbrev pub invariant-arrays : goal.invariant-arrays
invariant-arrays l =
    texts l.ordered.keys ≡ with_those (is_array (symbols_at l.symbols)) (texts l.initial.ordered.keys) (texts (take l.name-index l.names))
