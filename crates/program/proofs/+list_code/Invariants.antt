use Rattle.std.proofs.Common.{◌≤◌}
use Rattle.program.proofs.action.ListCodes.TheLaws.{the_size}
use Rattle.program.proofs.+list_code.Given as goal

-- what is left of the list is no deeper than all of it
abbrev pub invariant-action::ListCodes::drop-loop-self :
    goal.invariant-action::ListCodes::drop-loop-self
invariant-action::ListCodes::drop-loop-self l = the_size l.self ≤ the_size l.fn.self
