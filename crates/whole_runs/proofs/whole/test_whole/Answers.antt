use Rattle.meaning.specs.Trees.{item_tree}
use Rattle.evaluator.specs.Over.{TestsAt}
use Rattle.whole_runs.proofs.Wholes.{reads_whole}
use Rattle.whole_runs.proofs.whole.test_whole.Goals as goal

pub returns-clause-tests : goal.returns-clause-tests
returns-clause-tests c =
    let p = c.args.program.now in
    let y = c.test_arm in
    reads_whole c.args.cells.now y.new.store (TestsAt p c.args.first (item_tree c.args.head.now) c.args.turns.now y.new.turns y.result) y.ensures.reads
