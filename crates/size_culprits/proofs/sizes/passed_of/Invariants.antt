use Rattle.std.proofs.Common.{◌≡◌, take}
use Rattle.symbols.specs.Listed.{trees_at}
use Rattle.number_rules.specs.Sized.{AreBehind}
use Rattle.size_culprits.proofs.sizes.passed_of.Given as goal

abbrev pub invariant-loop-item : goal.invariant-loop-item
invariant-loop-item l = record {
  same : l.passed.table.symbols.now ≡ l.symbols;
  behind : AreBehind l.passed.table l.passed.elements (trees_at (take l.item-index l.before));
}
