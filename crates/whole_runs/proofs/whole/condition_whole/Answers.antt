use Rattle.evaluator.specs.Over.{ConditionAt}
use Rattle.whole_runs.proofs.Wholes.{reads_whole, kept_whole}
use Rattle.whole_runs.proofs.whole.condition_whole.Goals as goal

pub returns-clause-tests : goal.returns-clause-tests
returns-clause-tests c = λ e code.
    let p = c.args.program.now in
    let y = c.test_condition in
    reads_whole c.args.cells.now y.new.store (ConditionAt p e c.args.line c.args.turns.now y.new.turns y.result) (y.ensures.reads e code)

pub returns-clause-kept : goal.returns-clause-kept
returns-clause-kept c = λ e code.
    let p = c.args.program.now in
    let y = c.test_condition in
    kept_whole c.args.cells.now y.new.store p (ConditionAt p e c.args.line c.args.turns.now y.new.turns y.result) (y.ensures.reads e code)
