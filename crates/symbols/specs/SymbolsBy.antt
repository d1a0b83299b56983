-- What statements behind references say of names.
use Rattle.std.specs.Prelude.{List}
use Rattle.std.specs.Borrow.{Bor}
use Rattle.meaning.specs.declared.syntax.Item.{Item}
use Rattle.meaning.specs.Uses.{Symbols, symbols_of}
use Rattle.symbols.specs.Listed.{trees_at}

abbrev pub symbols_by : List (Bor Item) → Symbols
symbols_by items = symbols_of (trees_at items)
