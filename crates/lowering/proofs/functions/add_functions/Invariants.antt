use Rattle.std.proofs.Common.{drop, length}
use Rattle.symbols.specs.Listed.{trees_at}
use Rattle.lowering.specs.Functions.{AreFirst}
use Rattle.lowering.proofs.Places.{AreAwaited}
use Rattle.lowering.proofs.functions.add_functions.Given as goal

abbrev pub invariant-loop-item : goal.invariant-loop-item
invariant-loop-item l = record {
  first : AreFirst l.program l.codes.items;
  left : AreAwaited l.program (length l.codes.items) (trees_at (drop l.item-index l.items));
}
