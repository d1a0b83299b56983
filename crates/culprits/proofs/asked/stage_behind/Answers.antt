use Rattle.culprits.proofs.asked.stage_behind.Goals as goal

pub loop-item-init : goal.loop-item-init
loop-item-init c = c.new-stage.ensures c.args.symbols.now
