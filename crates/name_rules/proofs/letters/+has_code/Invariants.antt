use Rattle.name_rules.proofs.letters.+has_code.Given as goal

abbrev pub decreases-has_code : goal.decreases-has_code
decreases-has_code l = l.count
