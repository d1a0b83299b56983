use Rattle.std.proofs.Common.{rules}
use Rattle.private_view.proofs.paged.Paged.again.Goals as goal

pub unused-requires-clause-exposed : goal.unused-requires-clause-exposed
unused-requires-clause-exposed c = search rules
