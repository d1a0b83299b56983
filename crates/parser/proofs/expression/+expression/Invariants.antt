use Rattle.std.proofs.Common.{◌≡◌, ◌+◌, ◌*◌, ◌-◌, length}
use Rattle.meaning.specs.Syntax.{expr_tree}
use Rattle.meaning.specs.Reading.{operations_at, expression_at}
use Rattle.parser.proofs.expression.+expression.Given as goal

-- a depth counts for more than the expressions that can stand behind one another: 36893488147419103232 is 2 ^ 65
abbrev pub decreases-read_expression : goal.decreases-read_expression
decreases-read_expression l = 36893488147419103232 * l.depth

abbrev pub decreases-read_front : goal.decreases-read_front
decreases-read_front l = 36893488147419103232 * l.depth + 18446744073709551622

abbrev pub decreases-read_negation : goal.decreases-read_negation
decreases-read_negation l = 36893488147419103232 * l.depth + 18446744073709551621

abbrev pub decreases-read_primary : goal.decreases-read_primary
decreases-read_primary l = 36893488147419103232 * l.depth + 18446744073709551620

abbrev pub decreases-read_name_or_element : goal.decreases-read_name_or_element
decreases-read_name_or_element l = 36893488147419103232 * l.depth + 18446744073709551619

abbrev pub decreases-read_inner_subscripts : goal.decreases-read_inner_subscripts
decreases-read_inner_subscripts l = 36893488147419103232 * l.depth + 18446744073709551618

abbrev pub decreases-read_inner_expressions : goal.decreases-read_inner_expressions
decreases-read_inner_expressions l = 36893488147419103232 * l.depth + l.most + 1

abbrev pub decreases-read_parenthesis : goal.decreases-read_parenthesis
decreases-read_parenthesis l = 36893488147419103232 * l.depth + 1

abbrev pub decreases-read_operations : goal.decreases-read_operations
decreases-read_operations l = 36893488147419103232 * l.depth + 1

abbrev pub invariant-read_operations-loop : goal.invariant-read_operations-loop
invariant-read_operations-loop l =
    operations_at (expression_at l.depth) (l.end - l.counter) l.least (expr_tree l.left) l.rest ≡ operations_at (expression_at l.depth) (length l.fn.text) l.least (expr_tree l.fn.first) l.fn.text
