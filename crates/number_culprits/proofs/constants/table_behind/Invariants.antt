use Rattle.std.proofs.Common.{◌≡◌, take}
use Rattle.symbols.specs.Listed.{trees_at}
use Rattle.declarations.specs.Tables.{IsBehind}
use Rattle.number_culprits.proofs.constants.table_behind.Given as goal

abbrev pub invariant-loop-item : goal.invariant-loop-item
invariant-loop-item l = record {
  same : l.table.symbols.now ≡ l.symbols;
  behind : IsBehind l.table (trees_at (take l.item-index l.before));
}
