use Rattle.nesting.proofs.Pushes.{block_before}
use Rattle.nesting.proofs.unfinished.whole_block.Goals as goal

pub returns : goal.returns
returns c = block_before c.args.arms c.args.end
