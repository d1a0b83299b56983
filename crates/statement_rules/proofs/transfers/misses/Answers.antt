use Rattle.std.proofs.Common.{refl}
use Rattle.statement_rules.proofs.transfers.misses.Goals as goal

pub returns-in-None : goal.returns-in-None
returns-in-None c = λ a known. rw (known.small _ c.in-None.ensures) refl
