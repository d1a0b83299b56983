use Rattle.std.proofs.Common.{sym, subst}
use Rattle.meaning.specs.Execution.{step}
use Rattle.meaning.specs.Syntax.{format_tree, list_items_tree, shape_tree}
use Rattle.storage.specs.Checked.{items_in}
use Rattle.storage.specs.Starts.{map_of}
use Rattle.program_runs.specs.Walk.{Steps}
use Rattle.program_runs.proofs.Told.{items_told}
use Rattle.program_runs.proofs.statement.execute_writing.Goals as goal

pub execute_if-requires-clause-coded : goal.execute_if-requires-clause-coded
execute_if-requires-clause-coded g c =
    let p = c.args.program.now in
    let s = shape_tree c.args.statement.now in
    items_told p s (format_tree c.args.source.now) (list_items_tree c.args.list.now) c.requires.writes c.in-Some-list.codes.now (c.in-Some-list.ensures p s c.in-Some.ensures.1)

pub returns-in-Some-list-clause-steps : goal.returns-in-Some-list-clause-steps
returns-in-Some-list-clause-steps g c =
    let p = c.args.program.now in
    let told = g.S.Sink.told in
    let y = c.execute_if in
    subst (λ s. Steps (λ go. step (items_in p) s c.args.item.now.line (map_of p c.args.cells.now) c.args.turns.now go) c.args.turns.now (map_of p y.new.cells) y.new.turns y.result (told c.args.sink.now) (told y.new.sink)) (sym c.requires.logical) (y.ensures.steps _ c.requires.writes)
