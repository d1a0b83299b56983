use Rattle.loop_reports.proofs.Joining.{joined_six, then_ok}
use Rattle.loop_reports.proofs.lines.put_cuts_at.Goals as goal

pub returns : goal.returns
returns c =
    then_ok c.put_times.result (joined_six c.args.text.now.items _ _ _ _ _ _ _ _ _ _ _ _ c.in_ok-put.ensures c.in_ok-put_cell.ensures c.in_ok-put_trips.ensures c.in_ok-put_trips-2.ensures c.in_ok-put_execution.ensures) c.put_times.ensures
