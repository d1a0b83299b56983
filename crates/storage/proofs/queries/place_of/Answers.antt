use Rattle.std.proofs.Common.{subst}
use Rattle.storage.specs.Kept.{IsStored}
use Rattle.storage.proofs.Placing.{made, stored_place, no_place}
use Rattle.storage.proofs.queries.place_of.Goals as goal

pub returns-in-Some : goal.returns-in-Some
returns-in-Some c = λ w few stored.
    let s = c.in-Some.storage in
    stored_place w few c.new.result s (subst (IsStored w) c.in-Some.is stored) (made s c.deref.result.now c.new.result c.deref.ensures c.new.ensures.left c.new.ensures.behind c.new.ensures.limited)

pub returns-in-None : goal.returns-in-None
returns-in-None c = λ w few stored.
    no_place w few c.nowhere.result (subst (IsStored w) c.in-None.is stored) c.nowhere.ensures.left c.nowhere.ensures.behind c.nowhere.ensures.limited
