-- How far one has come in the statements of a program unit.
use Rattle.std.specs.Prelude.{◌≡◌, List}
use Rattle.meaning.specs.Syntax.{ItemTree}
use Rattle.meaning.specs.Uses.{is_before_executables}
use Rattle.symbols.specs.declared.names.Symbols.{Symbols}
use Rattle.symbols.specs.declared.stage.Stage.{Stage}
use Rattle.symbols.specs.SymbolsAt.{symbols_at}

-- these statements have come
abbrev pub IsBehind : Symbols → Stage → List ItemTree → Type 0
IsBehind r s before = s.is_before_executables ≡ is_before_executables (symbols_at r) before
