use Rattle.statement_rules.proofs.Labelled.{counted_more}
use Rattle.statement_rules.proofs.transfers.lines_of.Goals as goal

pub loop-item-preserved : goal.loop-item-preserved
loop-item-preserved c = λ s.
    counted_more s c.args.items.now c.loop-item.item-index c.item-item.result _ _ c.loop-item-test.true c.item-item.is (c.loop-item.invariant s) (c.in_ok-add_label.ensures.counted s)
