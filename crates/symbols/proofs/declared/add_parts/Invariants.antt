use Rattle.std.proofs.Common.{◌≡◌, ◌++◌, map, take}
use Rattle.meaning.specs.Syntax.{implicit_tree}
use Rattle.symbols.specs.TypedNames.{part_at}
use Rattle.symbols.proofs.declared.add_parts.Given as goal

abbrev pub invariant-loop-part : goal.invariant-loop-part
invariant-loop-part l =
    map part_at l.found.items ≡ map part_at l.initial.found.items ++ map implicit_tree (take l.part-index l.parts)
