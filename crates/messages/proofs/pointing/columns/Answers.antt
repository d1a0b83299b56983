use Rattle.std.specs.Prelude.{length}
use Rattle.std.proofs.Common.{arith, sym}
use Rattle.std.proofs.lemmas.List.{length-take-le, take_all}
use Rattle.messages.proofs.pointing.columns.Goals as goal

pub slice_bounds-result-end : goal.slice_bounds-result-end
slice_bounds-result-end c = sym (length-take-le 72 c.args.line.now (omega (arith, c.if-line-gt72.true)))

pub returns-else-line-gt72-clause-is : goal.returns-else-line-gt72-clause-is
returns-else-line-gt72-clause-is c = sym (take_all 72 c.args.line.now (omega (arith, c.if-line-gt72.false)))

pub returns-then-line-gt72-clause-short : goal.returns-then-line-gt72-clause-short
returns-then-line-gt72-clause-short c = omega (arith, length-take-le 72 c.args.line.now (omega (arith, c.if-line-gt72.true)))
