use Rattle.std.proofs.Common.{rules, pos, ◌+ℤ◌, ◌*ℤ◌, map, Some, ap₂, ◌∙◌, sym, ap, subst, FitsSigned, of_z, arith}
use Rattle.std.specs.Int.{w32}
use Rattle.std.specs.List.{range_with_len}
use Rattle.std.proofs.lemmas.Int.{to_z-of_z}
use Rattle.meaning.specs.Trips.{trip_count}
use Rattle.expressions.proofs.TripValues.{each_fits}
use Rattle.data_rules.proofs.TripsBetween.{trips_there}
use Rattle.data_rules.proofs.trips.trips_between.Goals as goal

pub returns-else-count-eq0-clause-trips : goal.returns-else-count-eq0-clause-trips
returns-else-count-eq0-clause-trips c =
    let first : FitsSigned w32 c.args.first = search rules in
    let step : FitsSigned w32 c.args.step = search rules in
    let last : FitsSigned w32 c.args.last = search rules in
    let n = c.trip_count-count.result in
    let a = to_z-of_z w32 c.args.first first in
    let b = to_z-of_z w32 c.args.last last in
    let s = to_z-of_z w32 c.args.step step in
    ap₂ (λ x y. Some (map (λ k. x +ℤ pos k *ℤ y) (range_with_len 0 n))) a s
    ∙ trips_there c.args.first c.args.last c.args.step n (c.trip_count-count.ensures ∙ (λ i. trip_count (a i) (b i) (s i))) (λ e. c.if-step-eq0.false (ap (of_z w32) e)) c.if-count-eq0.false

pub returns-else-count-eq0-clause-integers : goal.returns-else-count-eq0-clause-integers
returns-else-count-eq0-clause-integers c = λ k lt.
    let first : FitsSigned w32 c.args.first = search rules in
    let step : FitsSigned w32 c.args.step = search rules in
    let last : FitsSigned w32 c.args.last = search rules in
    let a = to_z-of_z w32 c.args.first first in
    let b = to_z-of_z w32 c.args.last last in
    let s = to_z-of_z w32 c.args.step step in
    let count = c.trip_count-count.ensures ∙ (λ i. trip_count (a i) (b i) (s i)) in
    subst (λ z. FitsSigned w32 z) (λ i. sym a i +ℤ pos k *ℤ sym s i)
    (each_fits c.args.first c.args.last c.args.step (λ e. c.if-step-eq0.false (ap (of_z w32) e)) first last k (omega (arith, lt, count)))
