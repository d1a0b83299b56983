use Rattle.std.proofs.Common.{subst}
use Rattle.std.specs.Prelude.{map}
use Rattle.messages.specs.Shown.{IsTold, shown}
use Rattle.engine.proofs.Told.{told_no_rule}
use Rattle.engine.proofs.running.tell_no_rule.Goals as goal

pub returns : goal.returns
returns g c =
    let told = g.S.Sink.told in
    let name = subst (λ n. IsTold (map shown n) (told c.put.new.err) (told c.put_shown.new.err)) c.as_bytes.ensures.value c.put_shown.ensures in
    told_no_rule c.args.name.now (told c.args.err.now) (told c.put.new.err) (told c.put_shown.new.err) (told c.put-2.new.err) c.put.ensures name c.put-2.ensures
