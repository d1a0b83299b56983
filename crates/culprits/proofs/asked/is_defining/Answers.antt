use Rattle.symbols.specs.Listed.{trees_at}
use Rattle.culprits.proofs.asked.is_defining.Goals as goal

pub returns : goal.returns
returns c = c.is_defining.ensures (trees_at c.args.before.now) c.stage_behind.ensures
