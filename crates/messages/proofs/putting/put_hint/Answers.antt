use Rattle.std.proofs.Common.{◌++◌, map, codes, subst}
use Rattle.messages.specs.Shown.{IsTold, shown}
use Rattle.messages.proofs.Told.{told_then}
use Rattle.messages.proofs.putting.put_hint.Goals as goal

pub returns : goal.returns
returns g c =
    let text = map shown c.args.text.now in
    let shows = subst (λ l. IsTold (map shown l) (g.S.Sink.told c.put.new.err) (g.S.Sink.told c.put_shown.new.err)) c.as_bytes.ensures.value c.put_shown.ensures in
    told_then (codes "  HINT: ") (text ++ codes "\n") _ _ _ c.put.ensures (told_then text (codes "\n") _ _ _ shows c.put-2.ensures)
