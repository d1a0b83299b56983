use Rattle.std.proofs.Common.{◌≡◌, drop}
use Rattle.std.specs.List.{list_any}
use Rattle.meaning.specs.Characters.{number_of}
use Rattle.meaning.specs.LabelRules.{is_format_at}
use Rattle.symbols.specs.Listed.{trees_at}
use Rattle.output_culprits.proofs.statements.has_format.Given as goal

abbrev pub invariant-loop-item : goal.invariant-loop-item
invariant-loop-item l =
    list_any (is_format_at (number_of l.label)) (trees_at (drop l.item-index l.items)) ≡ list_any (is_format_at (number_of l.label)) (trees_at l.items)
