use Rattle.std.proofs.Common.{◌≡◌, ◌+◌, ◌-◌, ◌<◌, pos, ◌+ℤ◌, ◌*ℤ◌, refl, sym, ap, subst, ◌∙◌, arith}
use Rattle.meaning.specs.declared.ending.Outcome.TheVariants as outcomes
use Rattle.storage.specs.Checked.{items_in}
use Rattle.storage.specs.Starts.{map_of}
use Rattle.evaluator.specs.Over.{repeated_as}
use Rattle.evaluator.specs.Statements.{Leaves}
use Rattle.stage_loop.specs.Loops.{AreIntegers}
use Rattle.stage_loop.proofs.Advances.{on, integers_further, next_value, repeated_on, trips_none, trips_then}
use Rattle.stage_loop.proofs.stages.run_stages.Goals as goal

pub loop-rest-init : goal.loop-rest-init
loop-rest-init g c =
    let p = c.args.program.now in
    let none : c.args.course.trips - c.args.course.trips ≡ 0 = omega arith in
    record {
      so_far = subst (λ n. Leaves (on (items_in p) c.args.repeated.now c.args.course.step c.args.course.value n (map_of p c.args.cells.now) c.args.turns.now) c.args.turns.now (map_of p c.args.cells.now) c.args.turns.now outcomes.Normal) (sym none) (trips_none (items_in p) c.args.repeated.now c.args.course.step c.args.course.value (map_of p c.args.cells.now) c.args.turns.now);
      step = refl;
      has = λ some. c.requires.has;
      few = omega arith;
      fits = c.requires.fits;
      same = λ none. (refl, refl);
      len = refl;
    }

pub run_next-done-requires-clause-moves : goal.run_next-done-requires-clause-moves
run_next-done-requires-clause-moves g c = λ κs h none. c.requires.moves (sym c.loop-rest.invariant.step ∙ none)

pub run_next-done-requires-clause-fits : goal.run_next-done-requires-clause-fits
run_next-done-requires-clause-fits g c = λ κs h.
    subst (λ s. AreIntegers c.loop-rest.rest.value s c.loop-rest.rest.trips) (sym c.loop-rest.invariant.step) c.loop-rest.invariant.fits

pub run_next-done-requires-clause-sized : goal.run_next-done-requires-clause-sized
run_next-done-requires-clause-sized g c = λ κs h. c.loop-rest.invariant.len ∙ c.requires.sized

pub returns-then-not-is_normal-clause-leaves : goal.returns-then-not-is_normal-clause-leaves
returns-then-not-is_normal-clause-leaves g c =
    let p = c.args.program.now in
    let all = items_in p in
    let l = c.args.repeated.now in
    let step = c.args.course.step in
    let rest = c.loop-rest.rest in
    let inv = c.loop-rest.invariant in
    let y = c.run_next-done in
    let done = y.result.done in
    let m = map_of p c.loop-rest.cells in
    let t = c.loop-rest.turns in
    let same = ap (λ s. repeated_as all l rest.value s done m t) inv.step ∙ repeated_on all l step rest.value done m t (inv.has c.loop-rest-test.true) in
    trips_then all l step c.args.course.value rest.value (c.args.course.trips - rest.trips) done (map_of p c.args.cells.now) m (map_of p y.new.cells) c.args.turns.now t y.new.turns y.result.outcome inv.so_far (subst (λ r. Leaves r t (map_of p y.new.cells) y.new.turns y.result.outcome) same y.ensures.leaves)

pub behind-rest-requires-clause-moves : goal.behind-rest-requires-clause-moves
behind-rest-requires-clause-moves g c = λ none. c.requires.moves (sym c.loop-rest.invariant.step ∙ none)

pub behind-rest-requires-clause-fits : goal.behind-rest-requires-clause-fits
behind-rest-requires-clause-fits g c =
    subst (λ s. AreIntegers c.loop-rest.rest.value s c.loop-rest.rest.trips) (sym c.loop-rest.invariant.step) c.loop-rest.invariant.fits

pub loop-rest-preserved : goal.loop-rest-preserved
loop-rest-preserved g c =
    let p = c.args.program.now in
    let all = items_in p in
    let l = c.args.repeated.now in
    let step = c.args.course.step in
    let rest = c.loop-rest.rest in
    let inv = c.loop-rest.invariant in
    let y = c.run_next-done in
    let done = y.result.done in
    let m0 = map_of p c.args.cells.now in
    let m = map_of p c.loop-rest.cells in
    let t0 = c.args.turns.now in
    let t = c.loop-rest.turns in
    let new = map_of p y.new.cells in
    let left = y.new.turns in
    let normal : y.result.outcome ≡ outcomes.Normal = c.is_normal.ensures.0 c.if-not-is_normal.false in
    let same = ap (λ s. repeated_as all l rest.value s done m t) inv.step ∙ repeated_on all l step rest.value done m t (inv.has c.loop-rest-test.true) in
    let told = subst (λ o. Leaves (on all l step rest.value done m t) t new left o) normal (subst (λ r. Leaves r t new left y.result.outcome) same y.ensures.leaves) in
    let next = c.behind-rest.result in
    let le = y.ensures.done in
    let some = y.ensures.some in
    let few = inv.few in
    let trips = c.behind-rest.ensures.trips in
    let more_left : 0 < next.trips → done < rest.trips = λ h. omega arith in
    let value : 0 < next.trips → next.value ≡ rest.value +ℤ pos done *ℤ step = λ h. c.behind-rest.ensures.value (more_left h) ∙ ap (λ z. rest.value +ℤ pos done *ℤ z) inv.step in
    let passed : (c.args.course.trips - rest.trips) + done ≡ c.args.course.trips - next.trips = omega arith in
    record {
      so_far = subst (λ n. Leaves (on all l step c.args.course.value n m0 t0) t0 new left outcomes.Normal) passed (trips_then all l step c.args.course.value rest.value (c.args.course.trips - rest.trips) done m0 m new t0 t left outcomes.Normal inv.so_far told);
      step = c.behind-rest.ensures.step ∙ inv.step;
      has = λ h. next_value all l step c.requires.quiet.unset rest.value done m new t left (inv.has c.loop-rest-test.true) told ∙ sym (value h);
      few = omega arith;
      fits = λ k lt. integers_further rest.value next.value step done rest.trips inv.fits (value (omega arith)) k (omega arith);
      same = λ none. absurd (omega arith);
      len = y.ensures.len ∙ inv.len;
    }

pub returns-clause-leaves : goal.returns-clause-leaves
returns-clause-leaves g c = c.loop-rest.invariant.so_far

pub returns-clause-nothing : goal.returns-clause-nothing
returns-clause-nothing g c = c.loop-rest.invariant.same
