use Rattle.std.specs.Prelude.{codes, ◌++◌, ◌-◌}
use Rattle.std.proofs.Common.{subst}
use Rattle.std.proofs.Math.ListN.{replicate}
use Rattle.messages.specs.Shown.{IsTold}
use Rattle.messages.proofs.Told.{told_then}
use Rattle.messages.proofs.pointing.put_mark.Goals as goal

pub returns : goal.returns
returns g c =
    let blanks = replicate (c.args.column - 1) 32 in
    let marked = subst (λ n. IsTold (replicate n 32) (g.S.Sink.told c.put.new.err) (g.S.Sink.told c.put_blanks.new.err)) c.saturating_sub.ensures c.put_blanks.ensures in
    told_then (codes "      | " ++ blanks) (codes "^\n") _ _ _ (told_then (codes "      | ") blanks _ _ _ c.put.ensures marked) c.put-2.ensures
