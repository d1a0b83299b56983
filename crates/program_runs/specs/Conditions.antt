-- The code of a condition and what its statement needs, which are there.
use Rattle.std.specs.Prelude.{Option, Some, None}
use Rattle.std.specs.Borrow.{Bor}
use Rattle.meaning.specs.declared.syntax.Tree.{Tree}
use Rattle.meaning.specs.Syntax.{ExprTree, ShapeTree}
use Rattle.postfix.specs.declared.code.Code.{Code}
use Rattle.program.specs.declared.action.Action.{Action}
use Rattle.program.specs.Acts.{Acts}
use Rattle.program.specs.Codes.{IsCode}

abbrev pub AreSomeParts : Tree → ExprTree → ShapeTree → Option (Bor Code × Bor Action) → Type 0
AreSomeParts t e s (Some p) = IsCode t e p.0.now × Acts t p.1.now s
AreSomeParts t e s None = ⊥
