use Rattle.std.proofs.Common.{◌<◌, pos, ◌+ℤ◌, ◌*ℤ◌, FitsSigned, rules, sym, subst}
use Rattle.std.specs.Int.{w32}
use Rattle.std.proofs.lemmas.Int.{to_z-of_z}
use Rattle.expressions.proofs.TripValues.{each_fits}
use Rattle.running_tests.proofs.staged.watching.look.Goals as goal

pub look_at-requires-clause-fits : goal.look_at-requires-clause-fits
look_at-requires-clause-fits g c = λ κs h k lt.
    let s = c.args.remaining.span in
    let first_fits : FitsSigned w32 s.first = search rules in
    let last_fits : FitsSigned w32 s.last = search rules in
    let step_fits : FitsSigned w32 s.step = search rules in
    subst (λ z. FitsSigned w32 z) (λ i. sym (to_z-of_z w32 s.first first_fits) i +ℤ pos k *ℤ sym (to_z-of_z w32 s.step step_fits) i) (each_fits s.first s.last s.step c.requires.moves first_fits last_fits k (subst (λ n. k < n) c.count_of-trips.ensures lt))
