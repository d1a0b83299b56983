use Rattle.std.proofs.Common.{◌≡◌, ◌<◌, ◌≤◌, ℕ, length, map, take}
use Rattle.symbols.specs.SymbolsAt.{symbols_at}
use Rattle.data_rules.specs.DataPassed.{IsPassed, IsSettled}
use Rattle.rule_passes.specs.InOrder.{line_at}
use Rattle.data_rules.specs.Lacking.{AreKnown, names_kept}
use Rattle.rule_passes.specs.Listed.{tree_at}
use Rattle.data_rules.proofs.starting.given_by_data.Given as goal

abbrev pub invariant-loop-item : goal.invariant-loop-item
invariant-loop-item l = record {
  symbols : l.table.symbols.now ≡ l.fn.symbols;
  known : AreKnown l.table (names_kept l.sizeless.items) (map tree_at (take l.item-index l.items));
  settled : (j : ℕ) → l.item-index ≤ j → j < length l.items → IsSettled (line_at (map tree_at l.items) j) l.passed;
  passed : IsPassed (symbols_at l.fn.symbols) l.fn.others (map tree_at (take l.item-index l.items)) l.passed;
}
