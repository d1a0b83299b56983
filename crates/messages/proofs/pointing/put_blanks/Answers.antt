use Rattle.std.proofs.Common.{[], ◌∷◌, subst}
use Rattle.std.proofs.Math.ListN.{replicate}
use Rattle.std.proofs.lemmas.List.{replicate_more}
use Rattle.messages.specs.Shown.{IsTold}
use Rattle.messages.proofs.Told.{told_none, told_then}
use Rattle.messages.proofs.pointing.put_blanks.Goals as goal

pub loop-init : goal.loop-init
loop-init g c = told_none _

pub loop-preserved : goal.loop-preserved
loop-preserved g c =
    subst (λ l. IsTold l (g.S.Sink.told c.args.err.now) (g.S.Sink.told c.put.new.err)) (replicate_more c.loop.counter 32)
    (told_then (replicate c.loop.counter 32) (32 ∷ []) _ _ _ c.loop.invariant c.put.ensures)
