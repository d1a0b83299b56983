use Rattle.std.proofs.Common.{◌≡◌}
use Rattle.declarations.specs.Tables.{scope_known, scope_types}
use Rattle.number_culprits.specs.Known.{bad_bound_at}
use Rattle.number_culprits.proofs.Stepping.{left_bad}
use Rattle.number_culprits.proofs.constants.bad_bound.Given as goal

abbrev pub invariant-loop-declarator : goal.invariant-loop-declarator
invariant-loop-declarator l =
    left_bad (scope_types l.scope) (scope_known l.scope) l.declarators l.declarator-index ≡ bad_bound_at l.scope l.declarators
