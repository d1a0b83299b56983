use Rattle.std.proofs.Common.{◌≡◌, subst}
use Rattle.engine.specs.Told.{is_named}
use Rattle.engine.proofs.telling.is_explained.Goals as goal

pub returns : goal.returns
returns c =
    subst (λ n. c.is_named.result ≡ is_named n c.args.first c.args.before.now) c.name.ensures c.is_named.ensures
