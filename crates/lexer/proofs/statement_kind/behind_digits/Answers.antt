use Rattle.std.proofs.Common.{arith}
use Rattle.lexer.proofs.Scans.{digits_dropped, digits_within}
use Rattle.lexer.proofs.statement_kind.behind_digits.Goals as goal

pub returns : goal.returns
returns c = grind (arith, digits_dropped, digits_within)
