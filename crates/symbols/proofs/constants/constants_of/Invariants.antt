use Rattle.std.proofs.Common.{◌≡◌, [], take}
use Rattle.meaning.specs.Uses.{defined_constants}
use Rattle.symbols.specs.Listed.{trees_at}
use Rattle.name_maps.specs.NameSets.{texts, with_names}
use Rattle.symbols.proofs.constants.constants_of.Given as goal

abbrev pub invariant-loop-item : goal.invariant-loop-item
invariant-loop-item l = texts l.names.keys ≡ with_names [] (defined_constants (trees_at (take l.item-index l.items)))
