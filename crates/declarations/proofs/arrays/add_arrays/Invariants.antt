use Rattle.std.proofs.Common.{◌≡◌, ℕ, List, map, take}
use Rattle.meaning.specs.Scopes.{dimensions_in, or_dimensions}
use Rattle.meaning.specs.Syntax.{declarator_tree}
use Rattle.declarations.specs.ArraysKept.{arrays_kept}
use Rattle.declarations.specs.Tables.{known_at, types_in}
use Rattle.declarations.proofs.arrays.add_arrays.Given as goal

abbrev pub invariant-loop-declarator : goal.invariant-loop-declarator
invariant-loop-declarator l =
    (n : List ℕ) → arrays_kept l.arrays n ≡ or_dimensions (arrays_kept l.initial.arrays n) (dimensions_in (types_in l.table) (known_at l.table) (map declarator_tree (take l.declarator-index l.declarators)) n)
