use Rattle.std.specs.Prelude.{codes, map, take, ◌++◌}
use Rattle.std.proofs.Common.{subst}
use Rattle.messages.specs.Shown.{IsTold, shown}
use Rattle.messages.proofs.Told.{told_then}
use Rattle.messages.proofs.pointing.put_body.Goals as goal

pub returns : goal.returns
returns g c =
    let columns = map shown (take 72 c.args.line.now) in
    let shows = subst (λ l. IsTold (map shown l) (g.S.Sink.told c.put.new.err) (g.S.Sink.told c.put_shown.new.err)) c.columns.ensures.is c.put_shown.ensures in
    told_then (codes " | " ++ columns) (codes "\n") _ _ _ (told_then (codes " | ") columns _ _ _ c.put.ensures shows) c.put-2.ensures
