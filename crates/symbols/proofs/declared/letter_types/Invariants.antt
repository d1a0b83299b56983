use Rattle.std.proofs.Common.{◌≡◌, map}
use Rattle.std.specs.List.{range_with_len}
use Rattle.symbols.specs.TypedNames.{letter_type, part_at}
use Rattle.symbols.proofs.declared.letter_types.Given as goal

abbrev pub invariant-loop-code : goal.invariant-loop-code
invariant-loop-code l = l.types.items ≡ map (letter_type l.implicit_none (map part_at l.parts)) (range_with_len 0 l.code)
