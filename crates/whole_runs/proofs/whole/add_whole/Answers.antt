use Rattle.std.proofs.Common.{subst, to_z, of_z}
use Rattle.std.specs.Int.{w32}
use Rattle.std.proofs.lemmas.Int.{to_z-of_z}
use Rattle.storage.specs.Starts.{map_of}
use Rattle.values.specs.Programs.{map_at}
use Rattle.evaluator.specs.Statements.{Adds}
use Rattle.whole_runs.proofs.Wholes.{does_whole}
use Rattle.whole_runs.proofs.whole.add_whole.Goals as goal

pub returns-in-Ok-clause-adds : goal.returns-in-Ok-clause-adds
returns-in-Ok-clause-adds c = λ n is.
    let p = c.args.program.now in
    subst (λ by. Adds n by (map_of p c.args.cells.now) (map_of p c.add_to.new.store) c.in-Ok.outcome) (to_z-of_z w32 c.args.by c.ranges.by) (does_whole c.args.cells.now c.add_to.new.store (λ m k. Adds n (to_z w32 (of_z w32 c.args.by)) (map_at p m) (map_at p k) c.in-Ok.outcome) (c.in-Ok.ensures.does n is))
