use Rattle.std.proofs.Common.{◌≡◌, ◌-◌, ◌≤◌, length, take, false}
use Rattle.meaning.specs.Promise.{Took}
use Rattle.record_sinks.proofs.sink.put_all.Given as goal

abbrev pub invariant-loop-done : goal.invariant-loop-done
invariant-loop-done g l = record {
  within : l.done ≤ length l.piece;
  open_still : (g.S.Sink.told l.sink).refused ≡ false;
  took : Took (g.S.Sink.told l.initial.sink) (g.S.Sink.told l.sink) (take l.done l.piece);
}

abbrev pub decreases-loop-done : goal.decreases-loop-done
decreases-loop-done g l = length l.piece - l.done
