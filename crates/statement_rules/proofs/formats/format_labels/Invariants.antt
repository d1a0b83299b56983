use Rattle.std.proofs.Common.{map, take}
use Rattle.std.specs.Ordering.{nat_cmp}
use Rattle.std.specs.BTreeSet.{contains}
use Rattle.statement_rules.specs.FormatLabels.{KnowsFormats}
use Rattle.rule_passes.specs.Listed.{tree_at}
use Rattle.statement_rules.proofs.formats.format_labels.Given as goal

abbrev pub invariant-loop-item : goal.invariant-loop-item
invariant-loop-item l = KnowsFormats (contains nat_cmp l.labels) (map tree_at (take l.item-index l.items))
