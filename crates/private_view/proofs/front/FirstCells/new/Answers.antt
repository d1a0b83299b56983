use Rattle.private_view.proofs.Fronts.{nothing_shown}
use Rattle.private_view.proofs.front.FirstCells.new.Goals as goal

pub returns-clause-front : goal.returns-clause-front
returns-clause-front c = nothing_shown c.none_shown.result c.first_values.result c.args.base.now c.none_shown.ensures.none c.none_shown.ensures.first c.first_values.ensures
