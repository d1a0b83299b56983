use Rattle.std.proofs.Common.{sym, ap, ◌∙◌}
use Rattle.data_rules.specs.DataStages.{behind_first, first_of}
use Rattle.data_rules.proofs.data_values.next_value.Goals as goal

pub returns-then-values-eq0-clause-first : goal.returns-then-values-eq0-clause-first
returns-then-values-eq0-clause-first c =
    ap first_of (sym (c.fill_run.ensures.empty c.if-values-eq0.true) ∙ c.fill_run.ensures.left)

pub returns-then-values-eq0-clause-rest : goal.returns-then-values-eq0-clause-rest
returns-then-values-eq0-clause-rest c =
    let empty = c.fill_run.ensures.empty c.if-values-eq0.true in
    empty ∙ ap behind_first (sym empty ∙ c.fill_run.ensures.left)
