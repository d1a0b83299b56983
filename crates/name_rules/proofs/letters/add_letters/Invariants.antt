use Rattle.std.proofs.Common.{◌≡◌, ◌++◌, map, take}
use Rattle.meaning.specs.Syntax.{letters_tree}
use Rattle.name_rules.specs.Lettered.{letters_at}
use Rattle.name_rules.proofs.letters.add_letters.Given as goal

abbrev pub invariant-loop-one : goal.invariant-loop-one
invariant-loop-one l =
    map letters_at l.found.items ≡ map letters_at l.initial.found.items ++ map letters_tree (take l.one-index l.letters)
