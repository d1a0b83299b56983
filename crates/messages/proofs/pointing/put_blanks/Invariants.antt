use Rattle.std.proofs.Math.ListN.{replicate}
use Rattle.messages.specs.Shown.{IsTold}
use Rattle.messages.proofs.pointing.put_blanks.Given as goal

abbrev pub invariant-loop : goal.invariant-loop
invariant-loop g l = IsTold (replicate l.counter 32) (g.S.Sink.told l.initial.err) (g.S.Sink.told l.err)
