use Rattle.std.proofs.Common.{refl}
use Rattle.record_sinks.proofs.sink.OutSink.refused.Goals as goal

pub returns : goal.returns
returns g c = refl
