use Rattle.type_rules.proofs.reals.add_real_names.Goals as goal

pub add_told-requires : goal.add_told-requires
add_told-requires c = c.new.ensures c.args.symbols.now
