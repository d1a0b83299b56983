use Rattle.std.proofs.Common.{◌≡◌, ◌≤◌, take}
use Rattle.symbols.specs.Listed.{trees_at}
use Rattle.list_culprits.specs.Transfers.{times}
use Rattle.list_culprits.proofs.transfers.count_at.Given as goal

abbrev pub invariant-loop-item : goal.invariant-loop-item
invariant-loop-item l = record {
  counted : l.count ≡ times l.label (trees_at (take l.item-index l.items));
  few : l.count ≤ l.item-index;
}
