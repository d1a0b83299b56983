use Rattle.std.proofs.Common.{rules}
use Rattle.meaning.specs.Kinds.{kind_outside_if}
use Rattle.lexer.proofs.statement_kind.kind_outside_if.Goals as goal

pub returns-else-has_comma_behind : goal.returns-else-has_comma_behind
unfolding kind_outside_if
returns-else-has_comma_behind c = search rules
