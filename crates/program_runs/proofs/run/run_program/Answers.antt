use Rattle.storage.specs.Checked.{tree_of}
use Rattle.program_runs.proofs.Promised.{keeps_reported, keeps_front, keeps_broken}
use Rattle.program_runs.proofs.run.run_program.Goals as goal

pub returns-in-Ok-clause-promise : goal.returns-in-Ok-clause-promise
returns-in-Ok-clause-promise g c =
    keeps_reported c.args.turns (tree_of c.args.program) (g.S.Sink.told c.args.sink.now) (g.S.Sink.told c.execute.new.sink) c.in-Ok.run' c.report_of.result c.in-Ok.ensures c.report_of.ensures.told

pub returns-in-Err-Memory-clause-promise : goal.returns-in-Err-Memory-clause-promise
returns-in-Err-Memory-clause-promise g c =
    let front = rw c.in-Err-Memory.field-0-is at c.in-Err-Memory.ensures in
    keeps_front c.args.turns (tree_of c.args.program) (g.S.Sink.told c.args.sink.now) (g.S.Sink.told c.execute.new.sink) front

pub returns-in-Err-WriteRefused-clause-promise : goal.returns-in-Err-WriteRefused-clause-promise
returns-in-Err-WriteRefused-clause-promise g c =
    let broken = rw c.in-Err-WriteRefused.field-0-is at c.in-Err-WriteRefused.ensures in
    keeps_broken c.args.turns (tree_of c.args.program) (g.S.Sink.told c.args.sink.now) (g.S.Sink.told c.execute.new.sink) broken
