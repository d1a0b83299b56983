use Rattle.function_culprits.proofs.functions.is_early.Goals as goal

pub loop-item-init : goal.loop-item-init
loop-item-init c = c.new-stage.ensures c.args.symbols.now
