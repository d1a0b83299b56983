-- Statement functions behind references.
use Rattle.std.specs.Prelude.{ℕ, List, [], ◌∷◌, Option, Some, None, if◌then◌else◌}
use Rattle.std.specs.Borrow.{Bor}
use Rattle.std.specs.Str.{bytes_eq}
use Rattle.meaning.specs.declared.syntax.Exprs.{Exprs}
use Rattle.meaning.specs.Syntax.{ExprTree, expr_tree, exprs_tree}
use Rattle.meaning.specs.Scopes.{Definition, listed}
use Rattle.symbols.specs.declared.functions.Function.{Function}

abbrev pub dummies_at : Option (Bor Exprs) → List ExprTree
dummies_at None = []
dummies_at (Some es) = listed (exprs_tree es.now)

abbrev pub definition_at : Function → Definition
definition_at f =
    record { name = f.name.now; dummies = dummies_at f.dummies; body = expr_tree f.body.now }

-- the first definition of a name
abbrev pub definition_named : List Definition → List ℕ → Option Definition
definition_named [] n = None
definition_named (d ∷ ds) n = if bytes_eq n d.name then Some d else definition_named ds n
