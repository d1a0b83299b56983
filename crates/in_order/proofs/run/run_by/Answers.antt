use Rattle.storage.specs.Checked.{tree_of}
use Rattle.in_order.proofs.Promised.{keeps_refused, keeps_spelled}
use Rattle.in_order.proofs.run.run_by.Goals as goal

pub returns-in-Err-Rule-clause-promise : goal.returns-in-Err-Rule-clause-promise
returns-in-Err-Rule-clause-promise g c =
    let told = rw c.in-Err-Rule.field-0-is at c.in-Err-Rule.ensures in
    rw c.in-Err-Rule.field-0-is (keeps_refused c.args.source.now c.args.turns c.in-Err-Rule.rule c.in-Err-Rule.line (g.S.Sink.told c.args.sink.now) told)

pub returns-clause-promise : goal.returns-clause-promise
returns-clause-promise g c =
    keeps_spelled c.args.turns (tree_of c.in-Ok.program) (g.S.Sink.told c.args.sink.now) (g.S.Sink.told c.run_program.new.sink) c.args.source.now c.run_program.result c.in-Ok.ensures c.run_program.ensures.promise
