use Rattle.std.proofs.Common.{◌≡◌}
use Rattle.declarations.specs.Bounded.{exprs_in_declarator}
use Rattle.declarations.specs.Tables.{scope_known, scope_types}
use Rattle.number_culprits.specs.Known.{first_none_at}
use Rattle.number_culprits.specs.Told.{unbounded}
use Rattle.number_culprits.proofs.Stepping.{left_open}
use Rattle.number_culprits.proofs.constants.open_array.Given as goal

abbrev pub invariant-loop-bounds : goal.invariant-loop-bounds
invariant-loop-bounds l =
    left_open (scope_types l.scope) (scope_known l.scope) (unbounded l.declarator.name.items) l.bounds-items l.bounds-index ≡ first_none_at l.scope (unbounded l.declarator.name.items) (exprs_in_declarator l.declarator)
