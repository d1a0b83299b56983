-- How many parts an expression has (ANSI X3.9-1978, 3.3 and 6.1).
use Rattle.std.specs.Prelude.{◌≤◌, length}
use Rattle.meaning.specs.Spelling.{IsWellExpr, spell_expr}
use Rattle.meaning.specs.Syntax.{ExprTree}
use Rattle.expressions.specs.Glossaries.{weight}

-- no more than its spelling has characters, of which a statement has 1,320 at most
abbrev pub PartsAreCharacters : Type 0
PartsAreCharacters = (e : ExprTree) → IsWellExpr e → weight e ≤ length (spell_expr e)
