use Rattle.std.proofs.Common.{◌≡◌, map, take}
use Rattle.meaning.specs.Statements.{entry_of}
use Rattle.meaning.specs.Trees.{item_tree}
use Rattle.meaning.specs.Answers.{members_of}
use Rattle.in_order.proofs.Listed.{so_far}
use Rattle.in_order.proofs.source.members_in.Given as goal

abbrev pub invariant-loop-statement : goal.invariant-loop-statement
invariant-loop-statement l =
    so_far l.broken (map item_tree l.members.items) ≡ members_of (map entry_of (take l.statement-index l.found))
