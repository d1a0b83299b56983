use Rattle.parser.proofs.statement.+read_expressions.Given as goal

abbrev pub decreases-read_expressions : goal.decreases-read_expressions
decreases-read_expressions l = l.most
