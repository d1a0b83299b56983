use Rattle.std.proofs.Common.{◌≡◌, false, map, drop}
use Rattle.symbols.specs.TypedNames.{letter_type, part_at}
use Rattle.symbols.proofs.declared.implied_type_of.Given as goal

abbrev pub invariant-loop-part : goal.invariant-loop-part
invariant-loop-part l = letter_type false (map part_at (drop l.part-index l.parts)) l.code ≡ letter_type false (map part_at l.parts) l.code
