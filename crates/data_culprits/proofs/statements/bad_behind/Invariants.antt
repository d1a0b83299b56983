use Rattle.std.proofs.Common.{◌≡◌, take}
use Rattle.symbols.specs.Listed.{trees_at}
use Rattle.symbols.specs.SymbolsAt.{symbols_at}
use Rattle.data_rules.specs.DataSets.{IsFilledBy, stage_by}
use Rattle.data_rules.specs.Lacking.{AreKnown, names_kept}
use Rattle.data_culprits.proofs.statements.bad_behind.Given as goal

abbrev pub invariant-loop-earlier : goal.invariant-loop-earlier
invariant-loop-earlier l = record {
  symbols : l.table.symbols.now ≡ l.symbols;
  known : AreKnown l.table (names_kept l.sizeless.items) (trees_at (take l.earlier-index l.before));
  filled : IsFilledBy (symbols_at l.symbols) (trees_at (take l.earlier-index l.before)) (stage_by l.filling);
}
