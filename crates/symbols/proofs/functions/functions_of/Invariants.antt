use Rattle.std.proofs.Common.{◌≡◌, ◌++◌, map, drop}
use Rattle.meaning.specs.Scopes.{definitions_of}
use Rattle.symbols.specs.Functions.{definition_at}
use Rattle.symbols.specs.Listed.{trees_at}
use Rattle.symbols.specs.RanksAt.{arrays_at}
use Rattle.symbols.proofs.functions.functions_of.Given as goal

abbrev pub invariant-loop-item : goal.invariant-loop-item
invariant-loop-item l =
    map definition_at l.found.items ++ definitions_of (arrays_at l.ranks) (trees_at (drop l.item-index l.items)) ≡ definitions_of (arrays_at l.ranks) (trees_at l.items)
