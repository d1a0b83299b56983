use Rattle.std.proofs.Common.{sym, ap, subst}
use Rattle.std.specs.Prelude.{OnOk}
use Rattle.meaning.specs.declared.refusal.Rule.TheVariants.{K7}
use Rattle.meaning.specs.NumberRules.{has_large_array}
use Rattle.symbols.specs.SymbolsAt.{symbols_at}
use Rattle.expressions.specs.Places.{capped}
use Rattle.rule_passes.specs.Telling.{AddsTold}
use Rattle.number_rules.proofs.Sizing.{elements_none}
use Rattle.number_rules.proofs.sizes.add_large_arrays.Goals as goal

pub returns : goal.returns
returns c =
    subst (λ r. OnOk c.add_told.result (AddsTold (has_large_array (symbols_at r)) K7 c.args.items.now c.args.pairs.now.items c.add_told.new.pairs.items)) c.table_of.ensures.symbols c.add_told.ensures

pub add_told-requires : goal.add_told-requires
add_told-requires c = record {
  table = c.table_of.ensures.behind;
  elements = ap capped (sym (elements_none (symbols_at c.table_of.result.symbols.now)));
}
