use Rattle.std.proofs.Common.{◌≡◌, map, take}
use Rattle.std.specs.Prelude.{flat_map}
use Rattle.meaning.specs.Syntax.{ImplicitTree, implicit_tree}
use Rattle.name_rules.specs.Lettered.{letters_at}
use Rattle.name_rules.proofs.letters.letters_of_parts.Given as goal

abbrev pub invariant-loop-part : goal.invariant-loop-part
invariant-loop-part l =
    map letters_at l.found.items ≡ flat_map (λ (p : ImplicitTree). p.letters) (map implicit_tree (take l.part-index l.parts))
