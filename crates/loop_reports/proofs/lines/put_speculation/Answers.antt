use Rattle.std.proofs.Common.{◌≡◌, ◌++◌, OnOk, subst}
use Rattle.loop_reports.specs.declared.lines.Totals.{Totals}
use Rattle.loop_reports.specs.Lines.{speculation_line}
use Rattle.loop_reports.proofs.Joining.{joined_five, then_ok}
use Rattle.loop_reports.proofs.lines.put_speculation.Goals as goal

pub returns : goal.returns
returns c =
    let old = c.args.text.now.items in
    subst (λ (t : Totals). OnOk c.put.result (c.put.new.text.items ≡ old ++ speculation_line t c.args.turns)) c.totals_in-totals.ensures
    (then_ok c.put.result (joined_five old _ _ _ _ _ _ _ _ _ _ c.in_ok-put_count.ensures c.in_ok-put_count-2.ensures c.in_ok-put_count-3.ensures c.in_ok-put_all_turns.ensures) c.put.ensures)
