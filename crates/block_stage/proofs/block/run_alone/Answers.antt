use Rattle.std.proofs.Common.{rules, ◌≡◌, ◌≤◌, ◌<◌, pos, ◌+ℤ◌, ◌*ℤ◌, sym, ap, subst, ◌∙◌, to_z, of_z, FitsSigned}
use Rattle.std.specs.Int.{w32}
use Rattle.std.proofs.lemmas.Int.{to_z-of_z}
use Rattle.private_view.specs.Views.{new_view}
use Rattle.evaluator.proofs.Looped.{counted_cell}
use Rattle.block_stage.specs.Jobs.{IsJob, JobParts, data_of, start_of, count_of, shape_in, variable_in}
use Rattle.block_stage.specs.Faithful.{IsFaithful}
use Rattle.block_stage.proofs.Alone.{faithful}
use Rattle.block_stage.proofs.block.run_alone.Goals as goal

pub value_at-first-requires-clause-fits : goal.value_at-first-requires-clause-fits
value_at-first-requires-clause-fits g c =
    let p = c.parts-parts.result in
    let is_job = subst IsJob c.parts-parts.ensures.parts c.parts-parts.ensures.job in
    let first_fits : FitsSigned w32 p.first = search rules in
    let step_fits : FitsSigned w32 p.step = search rules in
    subst (λ z. FitsSigned w32 z) (λ i. sym (to_z-of_z w32 p.first first_fits) i +ℤ pos c.place_of-place.result *ℤ sym (to_z-of_z w32 p.step step_fits) i) (is_job.fits c.place_of-place.result c.place_of-place.ensures.within)

pub returns-in-Ok-run_further_trips-clause-faithful : goal.returns-in-Ok-run_further_trips-clause-faithful
returns-in-Ok-run_further_trips-clause-faithful g c =
    let p = c.parts-parts.result in
    let j : JobParts = record { program = p.program.now; repeated = p.repeated.now; base = p.base.now; first = p.first; step = p.step; trips = p.trips; block_size = p.block_size; blocks = p.blocks; turns_left = p.turns_left } in
    let first = to_z w32 (of_z w32 c.value_at-first.result) in
    let step = to_z w32 (of_z w32 p.step) in
    let r = c.in-Ok-run_further_trips.run' in
    let kept = sym c.if-is_lost.ensures in
    let first_fits : FitsSigned w32 c.value_at-first.result = search rules in
    let step_fits : FitsSigned w32 p.step = search rules in
    let base_fits : FitsSigned w32 p.first = search rules in
    let below : c.args.block < j.blocks = search rules in
    let first_is : first ≡ start_of (data_of j) c.args.block = to_z-of_z w32 c.value_at-first.result first_fits ∙ c.value_at-first.ensures ∙ (λ i. to_z-of_z w32 p.first base_fits i +ℤ pos (c.place_of-place.ensures.place i) *ℤ to_z-of_z w32 p.step step_fits i) in
    let trips_are : c.min-trips.result ≡ count_of (data_of j) c.args.block = search rules in
    let within : r.turns_used ≤ j.turns_left = search rules in
    let fresh = c.requires.fresh ∙ ap (λ (q : JobParts). record (new_view q.base) { exposed = c.args.view.exposed }) c.parts-parts.ensures.parts in
    let sets = c.in-Ok.ensures.does (variable_in j.repeated) (counted_cell j.program p.repeat.now (shape_in j.repeated) c.parts-parts.ensures.repeats) in
    let so = faithful j c.run_further_trips.new.store r first step c.min-trips.result c.args.view c.set_variable.new.store fresh sets (c.in-Ok-run_further_trips.ensures.does first) kept c.args.block below first_is (to_z-of_z w32 p.step step_fits) trips_are within in
    subst (λ t. IsFaithful (data_of c.args.job.now) t) (sym c.new.ensures) (subst (λ q. IsFaithful (data_of q) (record { index = c.args.block; outcome = r.outcome; used = r.turns_used; seen = c.run_further_trips.new.store })) (sym c.parts-parts.ensures.parts) so)
