use Rattle.std.proofs.Common.{◌++◌, inl, inr, refl, subst}
use Rattle.std.specs.Prelude.{codes, IfOk}
use Rattle.messages.specs.Shown.{told_line}
use Rattle.messages.proofs.Told.{told_then}
use Rattle.engine.specs.Explained.{IsKnownFor}
use Rattle.engine.proofs.telling.put_known.Goals as goal

pub returns-in-Ok : goal.returns-in-Ok
returns-in-Ok g c =
    let told = c.put_by.ensures in
    let is_known = subst (λ r. IfOk r (IsKnownFor c.args.source.now c.args.matter.rule c.args.matter.line)) c.in-Ok.is c.requires in
    (told.0, inl (c.in-Ok.known, is_known, told.1), told.2)

pub returns-in-Err : goal.returns-in-Err
returns-in-Err g c =
    let told = c.put_by-in-Err.ensures in
    let untold = told_line (codes "NOT TOLD") in
    (told.0 ++ untold, inr (c.nothing.result, c.nothing.ensures, (told.0, told.1, refl)), told_then told.0 untold _ _ _ told.2 c.put_line.ensures)
