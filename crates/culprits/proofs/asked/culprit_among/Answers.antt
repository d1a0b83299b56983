use Rattle.std.proofs.Common.{sym, ◌∙◌, arith}
use Rattle.symbols.specs.Listed.{tree_at, trees_at}
use Rattle.culprits.specs.Culprits.{item_culprit_in}
use Rattle.culprits.proofs.Placing.{at_end}
use Rattle.culprits.proofs.asked.culprit_among.Goals as goal

pub returns : goal.returns
returns c =
    sym (at_end (item_culprit_in c.args.rule (trees_at c.args.symbols.now.items.now)) c.args.line tree_at c.args.items.now c.loop-index.index (omega arith))
    ∙ c.loop-index.invariant
