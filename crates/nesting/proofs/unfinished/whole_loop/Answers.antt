use Rattle.nesting.proofs.Pushes.{loop_before}
use Rattle.nesting.proofs.unfinished.whole_loop.Goals as goal

pub returns : goal.returns
returns c = loop_before c.args.head c.args.range
