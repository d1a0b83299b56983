-- What is given while the list of a DATA statement is gone over.
use Rattle.meaning.specs.Uses.{Symbols}
use Rattle.meaning.specs.Values.{Known}
use Rattle.symbols.specs.SymbolsAt.{symbols_at}
use Rattle.data_rules.specs.declared.giving.Giving.{Giving}
use Rattle.data_rules.specs.DataStages.{Stage}
use Rattle.data_rules.specs.Filled.{stage_at}
use Rattle.declarations.specs.Tables.{scope_known}

abbrev pub symbols_in : Giving → Symbols
symbols_in g = symbols_at g.scope.table.now.symbols.now

abbrev pub known_there : Giving → Known
known_there g = scope_known g.scope

abbrev pub stage_of : Giving → Stage
stage_of g = stage_at g.filling g.values
