-- The lines and statements of the definitions that those of the Rust types stand for.
use Rattle.std.specs.Prelude.{◌≡◌, ℕ, ◌+◌, List, ◌∷◌, Ok}
use Rattle.meaning.specs.declared.statement.Statement.{Statement}
use Rattle.meaning.specs.Lines.{lines_of, StatementLine, statement_lines}
use Rattle.meaning.specs.Refusals.{with_first}
use Rattle.meaning.specs.Statements.{continuations, Group, entry_of, statements_in}
use Rattle.source_columns.specs.declared.statement_lines.StatementLine as rust

abbrev pub line_of : rust.StatementLine → StatementLine
line_of l = record { line = l.number; columns = l.columns }

-- the statement lines of bytes, whose first line has this number
abbrev pub lines_from : ℕ → List ℕ → List StatementLine
lines_from number source = statement_lines number (lines_of source)

-- those behind a line
abbrev pub lines_behind : rust.StatementLine → List StatementLine
lines_behind l = lines_from (l.number + 1) l.behind.now

-- the line and those behind it
abbrev pub lines_at : rust.StatementLine → List StatementLine
lines_at l = line_of l ∷ lines_behind l

-- the lines of the statement that a line begins
abbrev pub group_of : rust.StatementLine → Group
group_of l = record { initial = line_of l; continued = continuations (lines_behind l) }

-- the statements of lines are this one and those of the rest
abbrev pub Begins : List StatementLine → Statement → List StatementLine → Type 0
Begins ls s rest = statements_in ls ≡ with_first (Ok (entry_of s)) (statements_in rest)
