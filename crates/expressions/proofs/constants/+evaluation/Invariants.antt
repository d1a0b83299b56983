use Rattle.std.proofs.Common.{◌+◌, ◌*◌}
use Rattle.meaning.specs.Syntax.{expr_tree, exprs_tree}
use Rattle.expressions.specs.Glossaries.{weight, weights}
use Rattle.expressions.proofs.constants.+evaluation.Given as goal

abbrev pub decreases-constant_value : goal.decreases-constant_value
decreases-constant_value g l = 2 * weight (expr_tree l.expression.now)

abbrev pub decreases-call_of : goal.decreases-call_of
decreases-call_of g l = 2 * weights (exprs_tree l.list.now) + 1

abbrev pub decreases-intrinsic_value : goal.decreases-intrinsic_value
decreases-intrinsic_value g l = 2 * weights (exprs_tree l.list.now)

abbrev pub decreases-nothing_of : goal.decreases-nothing_of
decreases-nothing_of g l = 2 * weights (exprs_tree l.list.now)
