use Rattle.std.proofs.Common.{sym, ◌∙◌}
use Rattle.storage.specs.Whereabouts.{where_in}
use Rattle.storage.proofs.Placing.{cells_at}
use Rattle.storage.proofs.queries.named_by.Goals as goal

pub returns-in-Some : goal.returns-in-Some
returns-in-Some c = λ t n says. sym says.value ∙ c.in-Some.is

pub returns-in-None : goal.returns-in-None
returns-in-None c = λ t n says. (
  sym says.value ∙ c.in-None.is,
  cells_at t n (record { place = c.place_of.result; data_type = c.args.entry.now.data_type }) (c.place_of.ensures (where_in t n) says.few says.stored) says.typed,
)
