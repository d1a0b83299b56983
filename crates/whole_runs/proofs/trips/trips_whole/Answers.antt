use Rattle.std.proofs.Common.{◌≡◌, ◌-◌, FitsSigned, rules, subst, to_z, of_z}
use Rattle.std.specs.Int.{w32}
use Rattle.std.proofs.lemmas.Int.{to_z-of_z}
use Rattle.storage.specs.Starts.{map_of}
use Rattle.values.specs.Programs.{map_at}
use Rattle.evaluator.specs.Statements.{Leaves, ran_by}
use Rattle.whole_runs.specs.Trips.{trips_in}
use Rattle.whole_runs.proofs.Advancing.{leaves_of_run}
use Rattle.whole_runs.proofs.Wholes.{does_whole}
use Rattle.whole_runs.proofs.trips.trips_whole.Goals as goal

pub returns-in-Ok-clause-leaves : goal.returns-in-Ok-clause-leaves
returns-in-Ok-clause-leaves c = λ first.
    let p = c.args.program.now in
    let l = c.args.repeated.now in
    let step = c.args.step in
    let n = c.args.trips in
    let t = c.args.turns.now in
    let new = c.run_further_trips.new.store in
    let run = c.in-Ok.run' in
    let step_fits : FitsSigned w32 step = search rules in
    let does = does_whole c.args.cells.now new (λ m k. trips_in p l first (to_z w32 (of_z w32 step)) n (map_at p m) t ≡ ran_by run (map_at p k)) (c.in-Ok.ensures.does first) in
    subst (λ s. Leaves (trips_in p l first s n (map_of p c.args.cells.now) t) t (map_of p new) (t - run.turns_used) run.outcome) (to_z-of_z w32 step step_fits) (leaves_of_run _ t (map_of p new) run does c.in-Ok.ensures.turns)
