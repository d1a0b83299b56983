use Rattle.std.proofs.Common.{◌≡◌, drop}
use Rattle.symbols.specs.Listed.{trees_at}
use Rattle.symbols.specs.SymbolsAt.{symbols_at}
use Rattle.function_culprits.proofs.Stepping.{defines}
use Rattle.function_culprits.proofs.functions.is_defined_before.Given as goal

abbrev pub invariant-loop-item : goal.invariant-loop-item
invariant-loop-item l =
    defines (symbols_at l.symbols) l.name (trees_at (drop l.item-index l.before)) ≡ defines (symbols_at l.symbols) l.name (trees_at l.before)
