use Rattle.std.proofs.Common.{length}
use Rattle.meaning.specs.Syntax.{expr_tree}
use Rattle.meaning.specs.Reading.{expression_at}
use Rattle.parser.proofs.Turns.{turn}
use Rattle.parser.proofs.expression.+expression.Goals as goal

pub read_operations-loop-preserved : goal.read_operations-loop-preserved
read_operations-loop-preserved t c =
    turn (expression_at c.args.depth) (length c.args.text.now) c.loop.counter c.args.least (expr_tree c.loop.left) c.loop.rest.now c.in-Some.operator c.in-Some.behind.now
    (expr_tree c.in-Ok.right) c.in-Ok.after.now _ _ c.loop.invariant c.loop-test.true c.in-Some.ensures c.if-not-continues.ensures _ c.least_on_right.ensures c.in-Ok.ensures c.in_ok-left-in-Ok.ensures
