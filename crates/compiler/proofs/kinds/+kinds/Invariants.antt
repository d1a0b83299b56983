use Rattle.std.proofs.Common.{◌+◌, ◌*◌}
use Rattle.meaning.specs.Syntax.{expr_tree, exprs_tree}
use Rattle.expressions.specs.Glossaries.{weight, weights, room}
use Rattle.compiler.proofs.kinds.+kinds.Given as goal

abbrev pub decreases-is_logical : goal.decreases-is_logical
decreases-is_logical g l =
    4 * (weight (expr_tree l.expression.now) + room (g.N.Numbering.names l.numbering.now).definitions l.frame.callable)

abbrev pub decreases-is_logical_element : goal.decreases-is_logical_element
decreases-is_logical_element g l =
    4 * (weights (exprs_tree l.list.now) + room (g.N.Numbering.names l.numbering.now).definitions l.frame.callable) + 3

abbrev pub decreases-is_logical_call : goal.decreases-is_logical_call
decreases-is_logical_call g l =
    4 * (weights (exprs_tree l.list.now) + room (g.N.Numbering.names l.numbering.now).definitions l.frame.callable) + 2

abbrev pub decreases-keep_kinds : goal.decreases-keep_kinds
decreases-keep_kinds g l =
    4 * (weights (exprs_tree l.list.now) + room (g.N.Numbering.names l.numbering.now).definitions l.frame.callable)
