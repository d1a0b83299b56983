use Rattle.std.proofs.Common.{Some, None}
use Rattle.std.proofs.lemmas.Result.{IfOk-weaker}
use Rattle.meaning.specs.Trees.{nested}
use Rattle.engine.proofs.telling.known_in.Goals as goal

pub returns-in-Ok : goal.returns-in-Ok
returns-in-Ok c =
    let spelled = rw c.in-Ok.is at c.requires in
    IfOk-weaker c.known_of.result _ _ (λ known h. (Some (nested c.in-Ok.unit), spelled, h)) c.known_of.ensures

pub returns-in-Rule : goal.returns-in-Rule
returns-in-Rule c =
    let told = rw c.in-Err.is at c.requires in
    let refused = rw c.in-Rule.is at told in
    IfOk-weaker c.known_unread.result _ _ (λ known h. (None, (_, refused), h)) c.known_unread.ensures
