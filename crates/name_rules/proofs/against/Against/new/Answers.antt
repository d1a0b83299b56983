use Rattle.name_rules.proofs.against.Against.new.Goals as goal

pub returns-clause-none : goal.returns-clause-none
returns-clause-none c = c.new.ensures c.args.symbols.now
