use Rattle.loop_reports.proofs.Joining.{joined_four, then_ok}
use Rattle.loop_reports.proofs.lines.put_reached.Goals as goal

pub returns : goal.returns
returns c =
    then_ok c.put_count-4.result (joined_four c.args.text.now.items _ _ _ _ _ _ _ _ c.in_ok-put_count.ensures c.in_ok-put_count-2.ensures c.in_ok-put_count-3.ensures) c.put_count-4.ensures
