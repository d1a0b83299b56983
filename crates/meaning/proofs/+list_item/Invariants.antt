use Rattle.std.proofs.Common.{◌≤◌}
use Rattle.meaning.proofs.syntax.ListItems.TheLaws.{the_size}
use Rattle.meaning.proofs.+list_item.Given as goal

-- what is left of the list is no deeper than all of it
abbrev pub invariant-syntax::ListItems::drop-loop-self :
    goal.invariant-syntax::ListItems::drop-loop-self
invariant-syntax::ListItems::drop-loop-self l = the_size l.self ≤ the_size l.fn.self
