use Rattle.function_rules.proofs.arguments.add_miscounts.Goals as goal

pub add_told-requires : goal.add_told-requires
add_told-requires c = c.new.ensures c.args.symbols.now
