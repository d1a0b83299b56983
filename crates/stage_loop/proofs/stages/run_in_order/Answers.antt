use Rattle.std.proofs.Common.{◌≡◌, ◌-◌, FitsSigned, rules, subst, to_z, of_z}
use Rattle.std.specs.Int.{w32}
use Rattle.std.proofs.lemmas.Int.{to_z-of_z}
use Rattle.storage.specs.Checked.{items_in}
use Rattle.storage.specs.Starts.{map_of}
use Rattle.values.specs.Programs.{map_at}
use Rattle.evaluator.specs.Over.{repeated_as}
use Rattle.evaluator.specs.Statements.{Leaves, ran_by}
use Rattle.whole_runs.proofs.Wholes.{does_whole}
use Rattle.whole_runs.proofs.Advancing.{leaves_of_run}
use Rattle.stage_loop.proofs.stages.run_in_order.Goals as goal

pub returns-in-Ok-clause-leaves : goal.returns-in-Ok-clause-leaves
returns-in-Ok-clause-leaves c =
    let p = c.args.program.now in
    let all = items_in p in
    let l = c.args.repeated.now in
    let value = c.args.course.value in
    let step = c.args.course.step in
    let n = c.min-done.result in
    let t = c.args.turns.now in
    let new = c.run_trips.new.store in
    let run = c.in-Ok.run' in
    let value_fits : FitsSigned w32 value = search rules in
    let step_fits : FitsSigned w32 step = search rules in
    let does = does_whole c.args.cells.now new (λ m k. repeated_as all l (to_z w32 (of_z w32 value)) (to_z w32 (of_z w32 step)) n (map_at p m) t ≡ ran_by run (map_at p k)) c.in-Ok.ensures.does in
    subst (λ r. Leaves r t (map_of p new) (t - run.turns_used) run.outcome) (λ i. repeated_as all l (to_z-of_z w32 value value_fits i) (to_z-of_z w32 step step_fits i) n (map_of p c.args.cells.now) t) (leaves_of_run _ t (map_of p new) run does c.in-Ok.ensures.turns)
