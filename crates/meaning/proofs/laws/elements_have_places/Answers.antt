use Rattle.meaning.proofs.Elements.{one_to_one}
use Rattle.meaning.proofs.laws.elements_have_places.Goals as goal

pub returns : goal.returns
returns c = one_to_one
