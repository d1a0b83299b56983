use Rattle.std.proofs.Common.{inl, refl, subst}
use Rattle.messages.specs.Shown.{IsTold}
use Rattle.engine.specs.Told.{not_told}
use Rattle.engine.proofs.telling.put_stages.Goals as goal

pub returns-in-Ok : goal.returns-in-Ok
returns-in-Ok g c =
    (c.in-Ok.lines.items, c.in-Ok.ensures, subst (λ l. IsTold l (g.S.Sink.told c.args.err.now) (g.S.Sink.told c.put_bytes.new.err)) c.deref.ensures.value c.put_bytes.ensures)

pub returns-in-Err : goal.returns-in-Err
returns-in-Err g c = (not_told, inl refl, c.put_untold.ensures)
