use Rattle.name_rules.proofs.letters.+take_codes.Given as goal

abbrev pub decreases-take_codes : goal.decreases-take_codes
decreases-take_codes l = l.count
