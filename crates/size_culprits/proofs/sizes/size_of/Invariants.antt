use Rattle.std.proofs.Common.{◌≡◌, map, take}
use Rattle.meaning.specs.Arrays.{size}
use Rattle.meaning.specs.Scopes.{dimension_of}
use Rattle.meaning.specs.Syntax.{bounds_tree}
use Rattle.expressions.specs.Places.{capped}
use Rattle.declarations.specs.Tables.{known_at, types_in}
use Rattle.size_culprits.proofs.sizes.size_of.Given as goal

abbrev pub invariant-loop-one : goal.invariant-loop-one
invariant-loop-one l =
    l.found ≡ capped (size (map (dimension_of (types_in l.table) (known_at l.table)) (map bounds_tree (take l.one-index l.bounds))))
