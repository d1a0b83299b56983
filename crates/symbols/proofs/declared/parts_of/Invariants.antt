use Rattle.std.proofs.Common.{◌≡◌, map, take}
use Rattle.symbols.specs.TypedNames.{implicit_parts, part_at}
use Rattle.symbols.specs.Listed.{trees_at}
use Rattle.symbols.proofs.declared.parts_of.Given as goal

abbrev pub invariant-loop-item : goal.invariant-loop-item
invariant-loop-item l = map part_at l.found.items ≡ implicit_parts (trees_at (take l.item-index l.items))
