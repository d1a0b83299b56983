use Rattle.k_rules.proofs.Judging.{least_more}
use Rattle.k_rules.proofs.pairs.least_of.Goals as goal

pub loop-pair-preserved : goal.loop-pair-preserved
loop-pair-preserved c =
    least_more c.args.pairs.now c.loop-pair.pair-index _ c.loop-pair.best c.lesser_with-best.result c.loop-pair-test.true c.loop-pair.invariant c.lesser_with-best.ensures
