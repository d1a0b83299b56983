use Rattle.std.proofs.Common.{rules}
use Rattle.source_columns.proofs.statement_lines.first_continuation_line.Goals as goal

pub returns-then-is_initial_line-clause-first : goal.returns-then-is_initial_line-clause-first
returns-then-is_initial_line-clause-first c = search rules
