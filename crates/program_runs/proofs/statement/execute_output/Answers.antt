use Rattle.std.proofs.Common.{subst}
use Rattle.std.proofs.lemmas.Result.{err_from_is_err_and}
use Rattle.meaning.specs.Syntax.{format_tree, list_items_tree}
use Rattle.meaning.specs.declared.ending.FaultKind.TheVariants.{F4}
use Rattle.meaning.specs.Promise.{Took, IsBroken}
use Rattle.storage.specs.Checked.{items_in}
use Rattle.storage.specs.Starts.{map_of}
use Rattle.evaluator.proofs.Executed.{fault_at}
use Rattle.program_runs.proofs.Composed.{steps_quietly}
use Rattle.program_runs.proofs.Written.{unwritten, write_fails, written_whole, written_in_part}
use Rattle.program_runs.proofs.statement.execute_output.Goals as goal

pub returns-then-not-take_turn-clause-steps : goal.returns-then-not-take_turn-clause-steps
returns-then-not-take_turn-clause-steps g c =
    let p = c.args.program.now in
    let m = map_of p c.args.cells.now in
    steps_quietly _ c.args.turns.now m c.take_turn.new.turns (fault_at F4 c.args.line) (g.S.Sink.told c.args.sink.now) (unwritten (items_in p) (format_tree c.args.source.now) (list_items_tree c.args.list.now) c.args.line m c.args.turns.now c.take_turn.new.turns c.if-not-take_turn.ensures.0 c.if-not-take_turn.ensures.1)

pub returns-in_err-put_all-in-Ok-clause-steps : goal.returns-in_err-put_all-in-Ok-clause-steps
returns-in_err-put_all-in-Ok-clause-steps g c =
    let told = g.S.Sink.told in
    let p = c.args.program.now in
    let made = rw c.in-Ok.is at c.in_ok-records.ensures.recorded in
    let q = err_from_is_err_and c.from_residual-in_err-put_all-in-Ok.result c.from_residual-in_err-put_all-in-Ok.ensures.1 in
    let broken : IsBroken c.in-Ok.records.items (told c.args.sink.now) (told c.put_all.new.sink) = subst (λ bs. IsBroken bs (told c.args.sink.now) (told c.put_all.new.sink)) c.deref.ensures.value c.in_err-put_all-in-Ok.ensures.err in
    rw (q.1, q.2) (written_in_part (items_in p) (format_tree c.args.source.now) (list_items_tree c.args.list.now) c.args.line (map_of p c.args.cells.now) c.args.turns.now c.take_turn.new.turns c.if-not-take_turn.ensures (map_of p c.recorded_list.new.cells) c.in-Ok.records.items made (told c.args.sink.now) (told c.put_all.new.sink) broken)

pub returns-in_ok-put_all-in-Ok-clause-steps : goal.returns-in_ok-put_all-in-Ok-clause-steps
returns-in_ok-put_all-in-Ok-clause-steps g c =
    let told = g.S.Sink.told in
    let p = c.args.program.now in
    let made = rw c.in-Ok.is at c.in_ok-records.ensures.recorded in
    let took : Took (told c.args.sink.now) (told c.put_all.new.sink) c.in-Ok.records.items = subst (λ bs. Took (told c.args.sink.now) (told c.put_all.new.sink) bs) c.deref.ensures.value c.in_ok-put_all-in-Ok.ensures.ok in
    written_whole (items_in p) (format_tree c.args.source.now) (list_items_tree c.args.list.now) c.args.line (map_of p c.args.cells.now) c.args.turns.now c.take_turn.new.turns c.if-not-take_turn.ensures (map_of p c.recorded_list.new.cells) c.in-Ok.records.items made (told c.args.sink.now) (told c.put_all.new.sink) took

pub returns-in-Err-clause-steps : goal.returns-in-Err-clause-steps
returns-in-Err-clause-steps g c =
    let p = c.args.program.now in
    let made = rw c.in-Err.is at c.in_ok-records.ensures.recorded in
    write_fails (items_in p) (format_tree c.args.source.now) (list_items_tree c.args.list.now) c.args.line (map_of p c.args.cells.now) c.args.turns.now c.take_turn.new.turns c.if-not-take_turn.ensures c.in-Err.kind (map_of p c.recorded_list.new.cells) (g.S.Sink.told c.args.sink.now) made
