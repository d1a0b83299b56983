use Rattle.std.proofs.Common.{[], refl, sym, subst, true}
use Rattle.messages.proofs.Told.{told_none}
use Rattle.messages.specs.Shown.{Adds}
use Rattle.engine.specs.Explained.{Explains}
use Rattle.engine.proofs.telling.put_explained.Goals as goal

pub returns-in-Some : goal.returns-in-Some
returns-in-Some g c =
    subst (λ m. Adds true (Explains c.args.file.now c.args.source.now m) (g.S.Sink.told c.args.err.now) (g.S.Sink.told c.put_known.new.err)) (sym c.in-Some.is) c.put_known.ensures

pub returns-in-None : goal.returns-in-None
returns-in-None g c =
    subst (λ m. Adds true (Explains c.args.file.now c.args.source.now m) (g.S.Sink.told c.args.err.now) (g.S.Sink.told c.args.err.now)) (sym c.in-None.is) ([], refl, told_none _)
