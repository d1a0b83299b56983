use Rattle.std.proofs.Common.{map, take}
use Rattle.messages.specs.Shown.{IsTold, shown}
use Rattle.messages.proofs.putting.put_shown.Given as goal

abbrev pub invariant-loop-byte : goal.invariant-loop-byte
invariant-loop-byte g l = IsTold (map shown (take l.byte-index l.bytes)) (g.S.Sink.told l.initial.err) (g.S.Sink.told l.err)
