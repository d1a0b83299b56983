use Rattle.std.proofs.Common.{◌≡◌, drop}
use Rattle.std.specs.List.{find}
use Rattle.meaning.specs.LabelRules.{has_label}
use Rattle.symbols.specs.Listed.{trees_at}
use Rattle.culprits.proofs.labels.first_labelled.Given as goal

abbrev pub invariant-loop-item : goal.invariant-loop-item
invariant-loop-item l =
    find (has_label l.label) (trees_at (drop l.item-index l.items)) ≡ find (has_label l.label) (trees_at l.items)
