use Rattle.std.proofs.Common.{sym, ap, ◌∙◌, Some}
use Rattle.declarations.specs.Tables.{scope_known, scope_types}
use Rattle.number_culprits.specs.Told.{tell, told_at}
use Rattle.number_culprits.proofs.Stepping.{bad_left}
use Rattle.number_culprits.proofs.constants.bad_bound.Goals as goal

pub returns-in-Some : goal.returns-in-Some
returns-in-Some c =
    let s = c.args.scope.now in
    bad_left (scope_types s) (scope_known s) c.args.declarators.now c.loop-declarator.declarator-index c.declarator-item.result (Some (told_at c.in-Some.culprit)) c.loop-declarator-test.true c.declarator-item.is (ap tell (sym c.in-Some.is) ∙ c.in_ok-culprit.ensures)
    ∙ c.loop-declarator.invariant
