use Rattle.std.proofs.Common.{◌≡◌, take}
use Rattle.declarations.specs.ArraysKept.{arrays_kept}
use Rattle.name_maps.specs.NameSets.{texts}
use Rattle.storage.specs.Numbered.{named}
use Rattle.cell_names.specs.Cells.{are_named}
use Rattle.cell_names.proofs.cells.with_dimensions.Given as goal

abbrev pub invariant-loop-name : goal.invariant-loop-name
invariant-loop-name l = are_named l.found.items ≡ named (arrays_kept l.arrays) (texts (take l.name-index l.names))
