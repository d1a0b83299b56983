use Rattle.ruly_laws.proofs.Statements.{functions_codable}
use Rattle.ruly_laws.proofs.functions_are_codable.Goals as goal

pub returns : goal.returns
returns c = functions_codable
