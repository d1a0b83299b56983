use Rattle.meaning.specs.Syntax.{shape_tree}
use Rattle.storage.specs.Checked.{items_in}
use Rattle.storage.specs.Starts.{map_of}
use Rattle.program_runs.proofs.Composed.{steps_quietly, steps_same}
use Rattle.program_runs.proofs.Told.{items_told}
use Rattle.program_runs.proofs.Written.{outputs, quiet_alone}
use Rattle.program_runs.proofs.statement.execute_alone.Goals as goal

pub execute_output-requires-clause-coded : goal.execute_output-requires-clause-coded
execute_output-requires-clause-coded g c =
    let s = shape_tree c.args.item.now.form.shape.value in
    items_told c.args.program.now s _ _ c.in-Some.ensures c.in-Some-list_in.codes.now c.in-Some-list_in.ensures

pub item_whole-requires-clause-quiet : goal.item_whole-requires-clause-quiet
item_whole-requires-clause-quiet g c = quiet_alone _ c.requires.alone c.in-None.ensures

pub returns-in-Some-list_in-clause-steps : goal.returns-in-Some-list_in-clause-steps
returns-in-Some-list_in-clause-steps g c =
    let p = c.args.program.now in
    let told = g.S.Sink.told in
    let y = c.execute_output in
    steps_same _ _ c.args.turns.now (map_of p y.new.cells) y.new.turns y.result (told c.args.sink.now) (told y.new.sink) (λ go. outputs (items_in p) _ _ _ c.in-Some.ensures c.args.item.now.line (map_of p c.args.cells.now) c.args.turns.now go) y.ensures.steps

pub returns-in-None-clause-steps : goal.returns-in-None-clause-steps
returns-in-None-clause-steps g c =
    let p = c.args.program.now in
    steps_quietly _ c.args.turns.now (map_of p c.item_whole.new.cells) c.item_whole.new.turns c.item_whole.result (g.S.Sink.told c.args.sink.now) c.item_whole.ensures.moves
