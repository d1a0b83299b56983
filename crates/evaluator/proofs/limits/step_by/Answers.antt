use Rattle.values.specs.Programs.{map_at, scope_in}
use Rattle.evaluator.proofs.Limiting.{step_reads}
use Rattle.evaluator.proofs.limits.step_by.Goals as goal

pub returns-in-Some-clause-reads : goal.returns-in-Some-clause-reads
returns-in-Some-clause-reads g c =
    let p = c.args.program.now in
    step_reads p (map_at p) (scope_in p) _ _ c.in-Some.code c.value.result c.value.ensures.reads c.args.step.now c.in-Some.is
