use Rattle.std.proofs.Common.{◌≤◌, ◌^◌, drop, length, take}
use Rattle.symbols.specs.Listed.{trees_at}
use Rattle.program.specs.Kept.{AreKept, HasNoOther}
use Rattle.lowering.specs.Lines.{Climb, lines_of}
use Rattle.lowering.proofs.lower.actions_of.Given as goal

abbrev pub invariant-loop-item : goal.invariant-loop-item
invariant-loop-item l = record {
  kept : AreKept l.program l.actions (trees_at (take l.item-index l.items));
  others : HasNoOther l.actions (trees_at (take l.item-index l.items));
  lines : Climb (length l.actions.places.items) (2 ^ 16) (lines_of (trees_at (drop l.item-index l.items)));
  few : length l.actions.actions.items ≤ length l.actions.places.items;
}
