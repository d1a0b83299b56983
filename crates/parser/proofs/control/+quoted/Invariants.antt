use Rattle.parser.proofs.control.+quoted.Given as goal

abbrev pub decreases-read_quoted : goal.decreases-read_quoted
decreases-read_quoted l = l.most
