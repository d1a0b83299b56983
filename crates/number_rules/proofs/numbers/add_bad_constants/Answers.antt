use Rattle.std.proofs.Common.{subst}
use Rattle.std.specs.Prelude.{OnOk}
use Rattle.meaning.specs.declared.refusal.Rule.TheVariants.{K6}
use Rattle.meaning.specs.NumberRules.{has_bad_number}
use Rattle.symbols.specs.SymbolsAt.{symbols_at}
use Rattle.rule_passes.specs.Telling.{AddsTold}
use Rattle.number_rules.proofs.numbers.add_bad_constants.Goals as goal

pub returns : goal.returns
returns c =
    subst (λ r. OnOk c.add_told.result (AddsTold (has_bad_number (symbols_at r)) K6 c.args.items.now c.args.pairs.now.items c.add_told.new.pairs.items)) c.table_of.ensures.symbols c.add_told.ensures
