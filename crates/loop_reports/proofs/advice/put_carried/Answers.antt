use Rattle.std.proofs.Common.{◌≡◌, ◌++◌, ap, ◌∙◌}
use Rattle.loop_reports.specs.Advice.{carried_text}
use Rattle.loop_reports.proofs.Joining.{joined_three, then_ok}
use Rattle.loop_reports.proofs.advice.put_carried.Goals as goal

pub returns : goal.returns
returns c =
    let last = λ (e : c.put-2.new.text.items ≡ c.put_cell.new.text.items ++ c.carried_words.result.now). e ∙ ap (λ s. c.put_cell.new.text.items ++ s) (c.carried_words.ensures ∙ ap carried_text c.in_ok-is_variable.ensures) in
    then_ok c.put-2.result (λ e. joined_three c.args.text.now.items _ _ _ _ _ _ c.in_ok-put.ensures c.in_ok-put_cell.ensures (last e)) c.put-2.ensures
