use Rattle.std.proofs.Common.{◌≡◌, pos, ◌+ℤ◌, ◌*ℤ◌, FitsSigned, ◌∙◌, sym, subst, rules, arith}
use Rattle.std.specs.Int.{w32}
use Rattle.std.proofs.lemmas.Int.{to_z-of_z}
use Rattle.meaning.specs.Trips.{trip_count}
use Rattle.expressions.proofs.TripValues.{each_fits}
use Rattle.stage_loop.proofs.do_statement.course_of.Goals as goal

pub returns-clause-fits : goal.returns-clause-fits
returns-clause-fits c = λ k lt.
    let span = c.args.remaining.span in
    let value = c.args.value in
    let value_fits : FitsSigned w32 value = search rules in
    let last_fits : FitsSigned w32 span.last = search rules in
    let step_fits : FitsSigned w32 span.step = search rules in
    let count : c.count_of.result ≡ trip_count value span.last span.step = c.count_of.ensures ∙ (λ i. trip_count (to_z-of_z w32 value value_fits i) (to_z-of_z w32 span.last last_fits i) (to_z-of_z w32 span.step step_fits i)) in
    let le = c.if-trips-count_of.false in
    subst (λ z. FitsSigned w32 z) (λ i. sym (to_z-of_z w32 value value_fits) i +ℤ pos k *ℤ sym (to_z-of_z w32 span.step step_fits) i) (each_fits value span.last span.step c.requires value_fits last_fits k (omega arith))
