use Rattle.std.proofs.Common.{◌≡◌, inr, subst}
use Rattle.std.proofs.lemmas.Result.{IfOk-weaker}
use Rattle.cell_names.specs.Cells.{are_named}
use Rattle.loop_reports.specs.Lines.{loop_lines}
use Rattle.engine.proofs.telling.stage_lines.Goals as goal

pub returns : goal.returns
returns c =
    IfOk-weaker c.told_loops.result _ _
    (λ lines h. inr (
      are_named c.in_ok-outline.outline.names.items,
      c.in_ok-outline.outline.statements.items,
      c.in_ok-outline.ensures,
      (c.in_ok-rows.rows, subst (λ ss. lines.items ≡ loop_lines (are_named c.in_ok-outline.outline.names.items) ss c.in_ok-rows.rows c.args.is_alone c.args.turns) c.deref-2.ensures.value (subst (λ ns. lines.items ≡ loop_lines (are_named ns) c.deref-2.result.now c.in_ok-rows.rows c.args.is_alone c.args.turns) c.deref.ensures.value h)),
    )) c.told_loops.ensures
