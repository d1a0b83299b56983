use Rattle.std.proofs.Common.{List, ℕ, [], take}
use Rattle.messages.specs.Shown.{IsTold}
use Rattle.engine.specs.Told.{ArePairs}
use Rattle.engine.proofs.telling.put_pairs.Given as goal

abbrev pub invariant-loop-at : goal.invariant-loop-at
invariant-loop-at g l =
    (lines : List ℕ) × ArePairs l.fn.first l.fn.file l.fn.source [] (take l.at l.pairs) lines
    × IsTold lines (g.S.Sink.told l.initial.err) (g.S.Sink.told l.err)
