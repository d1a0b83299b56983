use Rattle.std.proofs.Common.{refl}
use Rattle.nesting.proofs.Pushes.{arms_push}
use Rattle.nesting.proofs.unfinished.with_arm.Goals as goal

pub returns-in-Ok : goal.returns-in-Ok
returns-in-Ok c = rw (c.in-Ok.ensures.items, arms_push) refl
