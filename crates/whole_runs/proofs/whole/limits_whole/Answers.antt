use Rattle.meaning.specs.Trips.{span_of}
use Rattle.values.specs.Programs.{map_at, scope_in}
use Rattle.evaluator.specs.Limited.{SpanIs}
use Rattle.whole_runs.proofs.Wholes.{reads_whole, kept_whole}
use Rattle.whole_runs.proofs.whole.limits_whole.Goals as goal

pub returns-clause-span : goal.returns-clause-span
returns-clause-span c = λ l are.
    let p = c.args.program.now in
    reads_whole c.args.cells.now c.values_of_codes.new.store (λ m. SpanIs c.values_of_codes.result (span_of (scope_in p) l (map_at p m))) (c.values_of_codes.ensures.reads l are)

pub returns-clause-kept : goal.returns-clause-kept
returns-clause-kept c = λ l are.
    let p = c.args.program.now in
    kept_whole c.args.cells.now c.values_of_codes.new.store p (λ m. SpanIs c.values_of_codes.result (span_of (scope_in p) l (map_at p m))) (c.values_of_codes.ensures.reads l are)
