use Rattle.std.proofs.Common.{sym, ap, ◌∙◌, Some}
use Rattle.meaning.specs.Syntax.{expr_tree}
use Rattle.declarations.specs.Tables.{scope_known, scope_types, types_in}
use Rattle.number_culprits.specs.Numbers.{none_in}
use Rattle.number_culprits.specs.Told.{faulty, tell, told_at}
use Rattle.number_culprits.proofs.Stepping.{constant_left}
use Rattle.number_culprits.proofs.constants.bad_constant.Goals as goal

pub returns-in-Some : goal.returns-in-Some
returns-in-Some c =
    let x = c.constant-item.result in
    let known = scope_known c.loop-constant.scope in
    let e = expr_tree x.value in
    constant_left (scope_types c.args.scope.now) known c.args.constants.now c.loop-constant.constant-index x (Some (told_at c.in-Some.culprit)) c.loop-constant-test.true c.constant-item.is (ap tell (sym c.in-Some.is) ∙ c.in_ok-culprit.ensures ∙ ap (λ t. none_in (types_in t.now) known (faulty c.as_slice-name.result.now) e) c.loop-constant.invariant.table ∙ ap (λ n. none_in (scope_types c.args.scope.now) known (faulty n) e) c.as_slice-name.ensures.value)
    ∙ c.loop-constant.invariant.left
