use Rattle.private_view.proofs.Fronts.{none_there, places_first}
use Rattle.private_view.proofs.front.none_shown.Goals as goal

pub returns-clause-none : goal.returns-clause-none
returns-clause-none c = none_there

pub returns-clause-first : goal.returns-clause-first
returns-clause-first c = places_first
