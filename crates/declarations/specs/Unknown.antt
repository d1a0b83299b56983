-- Expressions that have a name which is no constant's, or are no constants.
use Rattle.std.specs.Prelude.{Bool}
use Rattle.std.specs.List.{list_any}
use Rattle.meaning.specs.declared.syntax.Expr.{Expr}
use Rattle.meaning.specs.NumberRules.{is_no_constant, is_unknown}
use Rattle.meaning.specs.Syntax.{expr_tree}
use Rattle.meaning.specs.Types.{Types}
use Rattle.meaning.specs.Uses.{uses_in}
use Rattle.meaning.specs.Values.{Known}

abbrev pub has_unknown_at : Known → Expr → Bool
has_unknown_at known e = list_any (is_unknown known) (uses_in (expr_tree e))

abbrev pub is_none_at : Types → Known → Expr → Bool
is_none_at types known e = is_no_constant types known (expr_tree e)
