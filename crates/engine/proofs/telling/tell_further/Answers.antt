use Rattle.std.proofs.Common.{[], refl, sym, subst}
use Rattle.messages.proofs.Told.{told_none}
use Rattle.messages.specs.Shown.{Adds}
use Rattle.engine.specs.Told.{AreAlso}
use Rattle.engine.proofs.telling.tell_further.Goals as goal

pub returns-then-is_wanted : goal.returns-then-is_wanted
returns-then-is_wanted g c =
    subst (λ b. Adds b (AreAlso c.args.first c.args.file.now c.args.source.now) (g.S.Sink.told c.args.err.now) (g.S.Sink.told c.put_further.new.err)) (sym c.if-is_wanted.true) c.put_further.ensures

pub returns-else-is_wanted : goal.returns-else-is_wanted
returns-else-is_wanted g c =
    subst (λ b. Adds b (AreAlso c.args.first c.args.file.now c.args.source.now) (g.S.Sink.told c.args.err.now) (g.S.Sink.told c.args.err.now)) (sym c.if-is_wanted.false) ([], refl, told_none _)
