use Rattle.std.proofs.Common.{take}
use Rattle.symbols.specs.Listed.{trees_at}
use Rattle.symbols.specs.Stages.{IsBehind}
use Rattle.culprits.proofs.asked.stage_behind.Given as goal

abbrev pub invariant-loop-item : goal.invariant-loop-item
invariant-loop-item l = IsBehind l.symbols l.stage (trees_at (take l.item-index l.before))
