use Rattle.std.proofs.Common.{rules}
use Rattle.lexer.proofs.symbolic_name.is_symbolic_name.Goals as goal

pub returns-then-are_alphanumeric : goal.returns-then-are_alphanumeric
returns-then-are_alphanumeric c = search rules
