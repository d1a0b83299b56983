use Rattle.function_rules.proofs.functions.add_unknown_functions.Goals as goal

pub add_told-requires : goal.add_told-requires
add_told-requires c = c.new.ensures c.args.symbols.now
