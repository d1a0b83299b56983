use Rattle.source_columns.proofs.Pieces.{return_dropped, return_absent, nothing_to_return}
use Rattle.source_columns.proofs.lines.without_carriage_return.Goals as goal

pub returns-then-last-eq13 : goal.returns-then-last-eq13
returns-then-last-eq13 c = return_dropped c.args.piece.now c.in-Some.front.now c.in-Some.last.now c.in-Some.ensures.cases.0 c.if-last-eq13.true

pub returns-else-last-eq13 : goal.returns-else-last-eq13
returns-else-last-eq13 c = return_absent c.args.piece.now c.in-Some.front.now c.in-Some.last.now c.in-Some.ensures.cases.0 c.if-last-eq13.false

pub returns-in-None : goal.returns-in-None
returns-in-None c = nothing_to_return c.args.piece.now c.in-None.ensures.cases
