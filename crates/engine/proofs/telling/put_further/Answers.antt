use Rattle.std.proofs.Common.{[], inl, inr, refl, subst, true}
use Rattle.messages.specs.Shown.{Adds}
use Rattle.engine.specs.Told.{ArePairs, not_told}
use Rattle.engine.proofs.telling.put_further.Goals as goal

pub returns-in-Ok : goal.returns-in-Ok
returns-in-Ok g c =
    let told = subst (λ ps. Adds true (ArePairs c.args.first c.args.file.now c.args.source.now [] ps) (g.S.Sink.told c.args.err.now) (g.S.Sink.told c.put_pairs.new.err)) c.deref.ensures.value c.put_pairs.ensures in
    (told.0, inr (c.in-Ok.pairs.items, c.in-Ok.ensures, told.1), told.2)

pub returns-in-Err : goal.returns-in-Err
returns-in-Err g c = (not_told, inl refl, c.put_untold.ensures)
