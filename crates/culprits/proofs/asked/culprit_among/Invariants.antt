use Rattle.std.proofs.Common.{◌≡◌, [], take, drop}
use Rattle.symbols.specs.Listed.{trees_at}
use Rattle.culprits.specs.Culprits.{item_culprit_in}
use Rattle.culprits.specs.Placing.{at_line, item_line}
use Rattle.culprits.proofs.asked.culprit_among.Given as goal

abbrev pub invariant-loop-index : goal.invariant-loop-index
invariant-loop-index l =
    at_line item_line (item_culprit_in l.rule (trees_at l.symbols.items.now)) l.line (trees_at (take l.index l.items)) (trees_at (drop l.index l.items)) ≡ at_line item_line (item_culprit_in l.rule (trees_at l.symbols.items.now)) l.line [] (trees_at l.items)
