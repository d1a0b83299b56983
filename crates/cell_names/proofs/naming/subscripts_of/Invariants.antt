use Rattle.std.proofs.Common.{◌≡◌, ◌<◌, ◌++◌, map, drop}
use Rattle.expressions.specs.Dimensions.{dimension}
use Rattle.meaning.specs.Arrays.{size}
use Rattle.cell_names.specs.Told.{subscripts_at}
use Rattle.cell_names.proofs.naming.subscripts_of.Given as goal

abbrev pub invariant-loop-one : goal.invariant-loop-one
invariant-loop-one l = record {
  so_far : l.found.items ++ subscripts_at (map dimension (drop l.one-index l.dimensions)) l.left ≡ subscripts_at (map dimension l.dimensions) l.place;
  less : l.left < size (map dimension (drop l.one-index l.dimensions));
}
