use Rattle.std.proofs.Common.{◌≡◌, ℕ, [], map, take}
use Rattle.std.specs.List.{list_any}
use Rattle.std.specs.Ordering.{nat_cmp}
use Rattle.std.specs.BTreeSet.{contains}
use Rattle.meaning.specs.LabelRules.{has_label, not_executable}
use Rattle.symbols.specs.SymbolsAt.{symbols_at}
use Rattle.symbols.specs.Stages.{IsBehind}
use Rattle.rule_passes.specs.Listed.{tree_at}
use Rattle.statement_rules.proofs.transfers.closed_labels.Given as goal

abbrev pub invariant-loop-item : goal.invariant-loop-item
invariant-loop-item l = record {
  closed : (s : ℕ) → contains nat_cmp l.closed s ≡ list_any (has_label s) (not_executable (symbols_at l.symbols) [] (map tree_at (take l.item-index l.items)));
  stage : IsBehind l.symbols l.stage (map tree_at (take l.item-index l.items));
}
