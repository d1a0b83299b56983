-- Statements of a program.
use Rattle.std.specs.Prelude.{List}
use Rattle.std.specs.List.{AllByRecursion}
use Rattle.meaning.specs.declared.syntax.Tree.{Tree}
use Rattle.meaning.specs.Syntax.{ItemTree}
use Rattle.program.specs.Programs.{IsStatement}

-- each is a statement of the program
abbrev pub AreStatements : Tree → List ItemTree → Type 0
AreStatements t items = AllByRecursion (IsStatement t) items
