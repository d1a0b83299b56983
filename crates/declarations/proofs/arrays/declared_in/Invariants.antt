use Rattle.std.proofs.Common.{◌≡◌, ℕ, List, map, take}
use Rattle.meaning.specs.Scopes.{arrays_from, known_of, nothing_known}
use Rattle.symbols.specs.SymbolsAt.{symbols_at}
use Rattle.declarations.specs.ArraysKept.{arrays_kept}
use Rattle.rule_passes.specs.Listed.{tree_at}
use Rattle.declarations.specs.Tables.{known_at}
use Rattle.declarations.proofs.arrays.declared_in.Given as goal

abbrev pub invariant-loop-item : goal.invariant-loop-item
invariant-loop-item l = record {
  symbols : l.table.symbols.now ≡ l.symbols;
  constants : known_at l.table ≡ known_of (symbols_at l.symbols).names.types (map tree_at (take l.item-index l.symbols.items.now));
  arrays : (n : List ℕ) → arrays_kept l.arrays n ≡ arrays_from (symbols_at l.symbols).names.types nothing_known (map tree_at (take l.item-index l.symbols.items.now)) n;
}
