-- What is said of names by the statements of a value of Roles.
use Rattle.meaning.specs.Uses.{Symbols}
use Rattle.symbols.specs.SymbolsBy.{symbols_by}
use Rattle.symbols.specs.declared.names.Symbols.{Symbols as Kept}

abbrev pub symbols_at : Kept → Symbols
symbols_at r = symbols_by r.items.now
