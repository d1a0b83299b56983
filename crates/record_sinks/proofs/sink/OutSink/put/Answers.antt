use Rattle.record_sinks.proofs.sink.OutSink.put.Goals as goal

pub returns-then-not-is_empty-clause-ok : goal.returns-then-not-is_empty-clause-ok
returns-then-not-is_empty-clause-ok g c = tt
