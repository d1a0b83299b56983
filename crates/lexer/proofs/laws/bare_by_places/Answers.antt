use Rattle.lexer.proofs.Places.{bare_places}
use Rattle.lexer.proofs.laws.bare_by_places.Goals as goal

pub returns : goal.returns
returns c = bare_places
