use Rattle.std.proofs.Common.{subst}
use Rattle.meaning.specs.Syntax.{format_tree, list_items_tree}
use Rattle.meaning.specs.Execution.{parts_for}
use Rattle.meaning.specs.Records.{edited}
use Rattle.storage.specs.Checked.{items_in}
use Rattle.storage.specs.Starts.{map_of}
use Rattle.evaluator.proofs.Composed.{if_ok_so}
use Rattle.program_runs.specs.Recorded.{AreEdited}
use Rattle.program_runs.proofs.Written.{list_fails, list_recorded}
use Rattle.program_runs.proofs.statement.recorded_list.Goals as goal

pub returns-in-Ok-clause-recorded : goal.returns-in-Ok-clause-recorded
returns-in-Ok-clause-recorded c =
    let t = c.args.program.now in
    let m = map_of t c.args.cells.now in
    let n = map_of t c.list_whole.new.cells in
    let source = format_tree c.args.source.now in
    let found = rw c.in-Ok.is at c.in_ok-found.ensures.values in
    if_ok_so c.edited_list.result _ _ (λ r made. list_recorded (items_in t) source (list_items_tree c.args.list.now) m c.in-Ok.found.items n r found (subst (λ vs. AreEdited r (edited (parts_for (items_in t) source) vs)) c.deref.ensures.value made)) c.edited_list.ensures

pub returns-in-Err-clause-recorded : goal.returns-in-Err-clause-recorded
returns-in-Err-clause-recorded c =
    let t = c.args.program.now in
    let failed = rw c.in-Err.is at c.in_ok-found.ensures.values in
    list_fails (items_in t) (format_tree c.args.source.now) (list_items_tree c.args.list.now) (map_of t c.args.cells.now) c.in-Err.kind (map_of t c.list_whole.new.cells) failed
