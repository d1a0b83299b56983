use Rattle.std.proofs.Common.{◌∙◌, arith}
use Rattle.std.proofs.lemmas.Result.{err_from_is_err_and}
use Rattle.record_sinks.proofs.Taken.{puts_more, breaks_at}
use Rattle.record_sinks.proofs.sink.put_all.Goals as goal

pub returns-in_err-done-clause-err : goal.returns-in_err-done-clause-err
returns-in_err-done-clause-err g c =
    let p = err_from_is_err_and c.from_residual.result c.from_residual.ensures.1 in
    let told = g.S.Sink.told in
    rw p.1 (breaks_at c.args.piece.now c.loop-done.done (told c.args.sink.now) (told c.loop-done.sink) (told c.put.new.self) c.loop-done.invariant.took c.in_err-done.ensures.err)

pub loop-done-preserved : goal.loop-done-preserved
loop-done-preserved g c =
    let told = g.S.Sink.told in
    let m = puts_more c.args.piece.now c.loop-done.done c.in_ok-done.field-0 (told c.args.sink.now) (told c.loop-done.sink) (told c.put.new.self) (omega arith) c.loop-done.invariant.took c.in_ok-done.ensures.ok in
    record { within = m.within; open_still = c.in_ok-done.ensures.ok.after.stays ∙ c.loop-done.invariant.open_still; took = m.after }
