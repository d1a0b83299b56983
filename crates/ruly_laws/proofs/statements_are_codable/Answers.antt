use Rattle.ruly_laws.proofs.Statements.{statements_codable}
use Rattle.ruly_laws.proofs.statements_are_codable.Goals as goal

pub returns : goal.returns
returns c = statements_codable
