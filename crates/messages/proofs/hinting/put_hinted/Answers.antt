use Rattle.std.proofs.Common.{[], refl, sym, subst}
use Rattle.messages.specs.Hinted.{IsHinted}
use Rattle.messages.proofs.Told.{told_none}
use Rattle.messages.proofs.hinting.put_hinted.Goals as goal

pub returns-in-None : goal.returns-in-None
returns-in-None g c = ([], subst (λ o. IsHinted c.args.source.now o []) (sym c.in-None.is) refl, told_none _)
