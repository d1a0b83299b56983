use Rattle.std.proofs.Common.{sym, ap, ◌∙◌, Some}
use Rattle.declarations.specs.Bounded.{exprs_in_bounds}
use Rattle.declarations.specs.Tables.{scope_known, scope_types}
use Rattle.number_culprits.specs.Known.{first_none_at}
use Rattle.number_culprits.specs.Told.{tell, told_at, unbounded}
use Rattle.number_culprits.proofs.Stepping.{open_left}
use Rattle.number_culprits.proofs.constants.open_array.Goals as goal

pub returns-in-Some : goal.returns-in-Some
returns-in-Some c =
    let s = c.args.scope.now in
    open_left (scope_types s) (scope_known s) (unbounded c.args.declarator.now.name.items) c.deref-bounds-items.result.now c.loop-bounds.bounds-index c.bounds-item.result (Some (told_at c.in-Some.culprit)) c.loop-bounds-test.true c.bounds-item.is (ap tell (sym c.in-Some.is) ∙ c.in_ok-culprit.ensures ∙ ap (λ n. first_none_at s (unbounded n) (exprs_in_bounds c.bounds-item.result)) c.as_slice.ensures.value)
    ∙ c.loop-bounds.invariant
