use Rattle.std.proofs.Common.{◌≡◌, map, drop}
use Rattle.std.specs.List.{list_any}
use Rattle.meaning.specs.Syntax.{letters_tree}
use Rattle.meaning.specs.Types.{is_among}
use Rattle.symbols.proofs.declared.has_letter.Given as goal

abbrev pub invariant-loop-letters : goal.invariant-loop-letters
invariant-loop-letters l =
    list_any (is_among l.code) (map letters_tree (drop l.letters-index l.letters-items)) ≡ list_any (is_among l.code) (map letters_tree l.letters-items)
