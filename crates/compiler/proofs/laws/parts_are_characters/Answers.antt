use Rattle.compiler.proofs.Small.{fewer_parts}
use Rattle.compiler.proofs.laws.parts_are_characters.Goals as goal

pub returns : goal.returns
returns c = fewer_parts
