use Rattle.std.proofs.Common.{◌∷◌, subst, sym, ap, ◌∙◌}
use Rattle.messages.specs.Pointed.{behind_mark, further}
use Rattle.messages.specs.Shown.{IsTold}
use Rattle.messages.proofs.Told.{told_then}
use Rattle.messages.proofs.pointing.put_behind.Goals as goal

pub returns-in-Some-next_continuation : goal.returns-in-Some-next_continuation
returns-in-Some-next_continuation g c =
    let first = c.in-Some.first.now in
    let second = c.in-Some-next_continuation.second.now in
    let lines = c.in-Some.ensures.lines ∙ ap (λ ls. first ∷ ls) c.in-Some-next_continuation.ensures.lines in
    subst (λ ls. IsTold (behind_mark ls) (g.S.Sink.told c.args.err.now) (g.S.Sink.told c.put_further-in-Some-next_continuation.new.err)) (sym lines) (told_then (further first) (further second) _ _ _ c.put_further.ensures c.put_further-in-Some-next_continuation.ensures)
