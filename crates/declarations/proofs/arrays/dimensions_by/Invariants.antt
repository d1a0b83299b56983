use Rattle.std.proofs.Common.{◌≡◌, ◌≤◌, map, take}
use Rattle.meaning.specs.Scopes.{dimension_of}
use Rattle.meaning.specs.Syntax.{bounds_tree}
use Rattle.smallvec.specs.SmallVec.{small_vec_len}
use Rattle.expressions.specs.Dimensions.{dimension}
use Rattle.declarations.specs.Tables.{known_at, types_in}
use Rattle.declarations.proofs.arrays.dimensions_by.Given as goal

abbrev pub invariant-loop-one : goal.invariant-loop-one
invariant-loop-one l =
    (map dimension l.found.items ≡ map (dimension_of (types_in l.table) (known_at l.table)) (map bounds_tree (take l.one-index l.bounds)))
    × (small_vec_len l.found ≡ l.one-index) × (7 ≤ l.found.capacity)
