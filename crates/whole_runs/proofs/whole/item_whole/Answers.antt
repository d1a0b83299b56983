use Rattle.meaning.specs.Execution.{step}
use Rattle.meaning.specs.Syntax.{shape_tree}
use Rattle.storage.specs.Checked.{items_in}
use Rattle.evaluator.specs.Over.{MovesAt}
use Rattle.whole_runs.proofs.Wholes.{does_whole}
use Rattle.whole_runs.proofs.whole.item_whole.Goals as goal

pub returns-in-Ok-clause-moves : goal.returns-in-Ok-clause-moves
returns-in-Ok-clause-moves c =
    let p = c.args.program.now in
    let y = c.run_item in
    does_whole c.args.cells.now y.new.store (MovesAt p (step (items_in p) (shape_tree c.args.item.now.form.shape.value) c.args.item.now.line) c.args.turns.now y.new.turns c.in-Ok.outcome) c.in-Ok.ensures.does
