use Rattle.type_rules.proofs.types.add_wrong_types.Goals as goal

pub add_told-requires : goal.add_told-requires
add_told-requires c = c.new.ensures c.args.symbols.now
