use Rattle.std.proofs.Common.{◌≡◌, map, take}
use Rattle.meaning.specs.Arrays.{size}
use Rattle.expressions.specs.Dimensions.{dimension}
use Rattle.cell_names.proofs.cells.cells_in.Given as goal

abbrev pub invariant-loop-one : goal.invariant-loop-one
invariant-loop-one l = l.found ≡ size (map dimension (take l.one-index l.dimensions))
