use Rattle.std.proofs.Common.{subst}
use Rattle.storage.specs.Kept.{IsStored}
use Rattle.storage.specs.Whereabouts.{where_in}
use Rattle.storage.proofs.queries.array_by.Goals as goal

pub returns-in-Some : goal.returns-in-Some
returns-in-Some c = λ t n says.
    c.array_of.ensures t n says.few (subst (IsStored (where_in t n)) c.in-Some.is says.stored) says.typed

pub returns-in-None : goal.returns-in-None
returns-in-None c = λ t n says.
    let none = subst (IsStored (where_in t n)) c.in-None.is says.stored in none.array
