use Rattle.std.proofs.Common.{◌≡◌, [], ◌++◌, map, take}
use Rattle.meaning.specs.declared.refusal.Rule.TheVariants.{K11}
use Rattle.meaning.specs.NameRules.{told}
use Rattle.rule_passes.specs.Listed.{tree_at}
use Rattle.statement_rules.specs.FormatLabels.{KnowsOutput, breaks_either, breaks_places}
use Rattle.statement_rules.specs.FormatsFound.{HoldsFormats}
use Rattle.statement_rules.proofs.formats.add_and_read.Given as goal

abbrev pub invariant-loop-item : goal.invariant-loop-item
invariant-loop-item l = record {
  so_far : l.pairs.items ≡ l.initial.pairs.items ++ told (breaks_either l.initial.output) K11 [] (map tree_at (take l.item-index l.items));
  known : KnowsOutput l.output (map tree_at (take l.item-index l.items));
  same : breaks_places l.output.table.symbols.now ≡ breaks_places l.initial.output.table.symbols.now;
  held : HoldsFormats (map tree_at (take l.item-index l.items)) l.formats;
}
