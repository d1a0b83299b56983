use Rattle.std.proofs.Common.{◌≡◌, [], ◌++◌, map, take}
use Rattle.meaning.specs.declared.refusal.Rule.TheVariants.{K10}
use Rattle.meaning.specs.Initial.{has_bad_data}
use Rattle.meaning.specs.NameRules.{told}
use Rattle.symbols.specs.SymbolsAt.{symbols_at}
use Rattle.rule_passes.specs.Listed.{tree_at}
use Rattle.data_rules.specs.DataSets.{IsFilledBy, stage_by}
use Rattle.data_rules.specs.Lacking.{AreKnown, names_kept}
use Rattle.data_rules.proofs.further.add_bad_data.Given as goal

abbrev pub invariant-loop-item : goal.invariant-loop-item
invariant-loop-item l = record {
  symbols : l.table.symbols.now ≡ l.fn.symbols;
  known : AreKnown l.table (names_kept l.sizeless.items) (map tree_at (take l.item-index l.items));
  filled : IsFilledBy (symbols_at l.fn.symbols) (map tree_at (take l.item-index l.items)) (stage_by l.filling);
  added : l.pairs.items ≡ l.initial.pairs.items ++ told (has_bad_data (symbols_at l.fn.symbols)) K10 [] (map tree_at (take l.item-index l.items));
}
