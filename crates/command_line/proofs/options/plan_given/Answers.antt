use Rattle.std.proofs.Common.{◌∙◌, refl, sym, ap, true≢false}
use Rattle.std.specs.Prelude.{is_some}
use Rattle.command_line.specs.CommandLine.{block, turns, window, workers}
use Rattle.command_line.proofs.Asking.{planned_by}
use Rattle.command_line.proofs.options.plan_given.Goals as goal

pub unreachable-requires : goal.unreachable-requires
unreachable-requires c =
    let given = c.requires.0 in
    let h = c.requires.1 in
    let is = planned_by given _ _ _ _ (c.number_given.ensures given workers h (refl, refl, refl)) (c.number_given-2.ensures given block h (refl, refl, refl))
    (c.number_given-3.ensures given window h (refl, refl, refl)) (c.number_given-4.ensures given turns h (refl, refl, refl)) h.1 in
    true≢false (sym (ap (λ o. is_some o) is) ∙ ap (λ o. is_some o) (sym c.new-plan.ensures ∙ c.in-None.is))
