use Rattle.std.proofs.Common.{◌≡◌, map, drop}
use Rattle.meaning.specs.Scopes.{dimension_of}
use Rattle.meaning.specs.Syntax.{bounds_tree}
use Rattle.declarations.specs.Tables.{known_at, types_in}
use Rattle.size_culprits.specs.Sizes.{reversed_in}
use Rattle.size_culprits.proofs.sizes.reversed.Given as goal

abbrev pub invariant-loop-one : goal.invariant-loop-one
invariant-loop-one l =
    reversed_in l.name (map (dimension_of (types_in l.table) (known_at l.table)) (map bounds_tree (drop l.one-index l.bounds))) ≡ reversed_in l.name (map (dimension_of (types_in l.table) (known_at l.table)) (map bounds_tree l.bounds))
