use Rattle.std.specs.Prelude.{codes}
use Rattle.messages.specs.Pointed.{body}
use Rattle.messages.proofs.Told.{told_then}
use Rattle.messages.proofs.pointing.put_further.Goals as goal

pub returns : goal.returns
returns g c = told_then (codes "     ") (body c.args.line.now) _ _ _ c.put.ensures c.put_body.ensures
