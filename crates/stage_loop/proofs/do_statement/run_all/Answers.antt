use Rattle.std.proofs.Common.{◌≡◌, ◌+◌, ◌-◌, FitsSigned, sym, subst, ◌∙◌, rules, arith}
use Rattle.std.specs.Int.{w32}
use Rattle.std.proofs.lemmas.Int.{to_z-of_z}
use Rattle.std.proofs.lemmas.Bool.{false≢true}
use Rattle.meaning.specs.declared.ending.Outcome.TheVariants as outcomes
use Rattle.storage.specs.Checked.{items_in}
use Rattle.storage.specs.Starts.{map_of}
use Rattle.evaluator.specs.Statements.{Leaves}
use Rattle.whole_runs.proofs.Advancing.{is_end}
use Rattle.stage_loop.proofs.Advances.{on, trips_end, trips_then}
use Rattle.stage_loop.proofs.do_statement.run_all.Goals as goal

pub returns-then-not-is_normal-clause-leaves : goal.returns-then-not-is_normal-clause-leaves
returns-then-not-is_normal-clause-leaves g c =
    let p = c.args.program.now in
    let y = c.run_stages-advance in
    let o = y.result.outcome in
    let end = is_end o (λ e. false≢true (sym c.if-not-is_normal.true ∙ c.is_normal.ensures.1 e)) in
    trips_end (items_in p) c.args.repeated.now c.args.course.step c.args.course.value y.result.done c.args.course.trips y.ensures.done (map_of p c.args.cells.now) (map_of p y.new.cells) c.args.turns.now y.new.turns o end y.ensures.leaves

pub returns-clause-leaves : goal.returns-clause-leaves
returns-clause-leaves g c =
    let p = c.args.program.now in
    let all = items_in p in
    let l = c.args.repeated.now in
    let step = c.args.course.step in
    let value = c.args.course.value in
    let m = map_of p c.args.cells.now in
    let t = c.args.turns.now in
    let y = c.run_stages-advance in
    let z = c.trips_whole in
    let mid = map_of p y.new.cells in
    let new = map_of p z.new.cells in
    let le = y.ensures.done in
    let normal : y.result.outcome ≡ outcomes.Normal = c.is_normal.ensures.0 c.if-not-is_normal.false in
    let told = subst (λ o. Leaves (on all l step value y.result.done m t) t mid y.new.turns o) normal y.ensures.leaves in
    let fits : FitsSigned w32 step = search rules in
    let rest = subst (λ s. Leaves (on all l s value (c.args.course.trips - y.result.done) mid y.new.turns) y.new.turns new z.new.turns z.result) (to_z-of_z w32 step fits) (z.ensures.leaves value) in
    let trips : y.result.done + (c.args.course.trips - y.result.done) ≡ c.args.course.trips = omega arith in
    subst (λ n. Leaves (on all l step value n m t) t new z.new.turns z.result) trips (trips_then all l step value value y.result.done (c.args.course.trips - y.result.done) m mid new t y.new.turns z.new.turns z.result told rest)
