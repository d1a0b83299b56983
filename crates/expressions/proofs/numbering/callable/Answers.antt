use Rattle.expressions.proofs.Calls.{none_callable, others_before}
use Rattle.expressions.proofs.numbering.callable.Goals as goal

pub returns-else-function-most : goal.returns-else-function-most
returns-else-function-most g c =
    let names = g.N.Numbering.names c.args.numbering.now in
    none_callable names c.args.name.now c.args.most (others_before names c.args.name.now c.in-Some.function c.in-Some.ensures c.args.most c.if-function-most.false)

pub returns-in-None : goal.returns-in-None
returns-in-None g c =
    none_callable (g.N.Numbering.names c.args.numbering.now) c.args.name.now c.args.most (λ k d lt. c.in-None.ensures k d)
