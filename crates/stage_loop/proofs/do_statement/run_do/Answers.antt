use Rattle.std.proofs.Common.{◌<◌, [], pos, ◌+ℤ◌, ◌*ℤ◌, FitsSigned, rules, sym, ap, subst, ◌∙◌, to_z, of_z}
use Rattle.std.specs.Int.{w32}
use Rattle.std.proofs.lemmas.Int.{to_z-of_z}
use Rattle.meaning.specs.declared.ending.FaultKind.TheVariants.{F4}
use Rattle.meaning.specs.declared.syntax.Loop.{out-Loop}
use Rattle.meaning.specs.Execution.{exec, looped}
use Rattle.meaning.specs.Maps.{Map, put}
use Rattle.meaning.specs.Syntax.{doing}
use Rattle.storage.specs.Checked.{items_in}
use Rattle.storage.specs.Starts.{map_of}
use Rattle.values.specs.Programs.{scope_in}
use Rattle.evaluator.specs.Limited.{span_values}
use Rattle.evaluator.specs.Over.{MovesIn, loop_as, trips_as}
use Rattle.evaluator.specs.Statements.{Leaves, Moves}
use Rattle.evaluator.proofs.Executed.{fault_at}
use Rattle.evaluator.proofs.Looped.{counted_cell, do_faults, do_moves, do_unmoved, says}
use Rattle.block_stage.specs.Jobs.{range_in, shape_in, variable_in}
use Rattle.stage_loop.proofs.QuietLoop.{put_here}
use Rattle.expressions.proofs.TripValues.{each_fits}
use Rattle.stage_loop.proofs.do_statement.run_do.Goals as goal

pub returns-then-not-take_turn-clause-moves : goal.returns-then-not-take_turn-clause-moves
returns-then-not-take_turn-clause-moves g c =
    let p = c.args.program.now in
    let all = items_in p in
    let l = c.args.repeated.now in
    let d = c.requires.repeats in
    let line = (out-Loop l).head.line in
    let cells = c.args.cells.now in
    let u = c.take_turn.new.turns in
    subst (λ s. MovesIn p cells cells (loop_as all s l) c.args.turns.now u (fault_at F4 line)) (sym (says p c.args.repeat.now (shape_in l) d)) (do_unmoved (scope_in p) (exec all) d.label d.comma (variable_in l) d.limits line (range_in l) (map_of p cells) c.args.turns.now u c.if-not-take_turn.ensures.0 c.if-not-take_turn.ensures.1)

pub run_all-requires-clause-fits : goal.run_all-requires-clause-fits
run_all-requires-clause-fits g c = λ κs h k lt.
    let d = c.requires.repeats in
    let s = c.in-Ok.span in
    let first_fits : FitsSigned w32 s.first = search rules in
    let last_fits : FitsSigned w32 s.last = search rules in
    let step_fits : FitsSigned w32 s.step = search rules in
    let some = (c.in-Ok.ensures.span d.limits d.are).1 in
    subst (λ z. FitsSigned w32 z) (λ i. sym (to_z-of_z w32 s.first first_fits) i +ℤ pos k *ℤ sym (to_z-of_z w32 s.step step_fits) i) (each_fits s.first s.last s.step some first_fits last_fits k (subst (λ n. k < n) c.count_of.ensures lt))

pub run_all-requires-clause-has : goal.run_all-requires-clause-has
run_all-requires-clause-has g c = λ κs h.
    let p = c.args.program.now in
    let l = c.args.repeated.now in
    let set = c.set_whole.ensures.set (variable_in l) (counted_cell p c.args.repeat.now (shape_in l) c.requires.repeats) in
    ap (λ (m : Map). m (variable_in l) []) set ∙ put_here (map_of p c.limits_whole.new.cells) (variable_in l) (to_z w32 (of_z w32 c.in-Ok.span.first))

pub returns-in-Ok-clause-moves : goal.returns-in-Ok-clause-moves
returns-in-Ok-clause-moves g c =
    let p = c.args.program.now in
    let all = items_in p in
    let l = c.args.repeated.now in
    let d = c.requires.repeats in
    let m = map_of p c.args.cells.now in
    let t = c.args.turns.now in
    let u = c.take_turn.new.turns in
    let s = c.in-Ok.span in
    let y = c.run_all in
    let new = map_of p y.new.cells in
    let first_fits : FitsSigned w32 s.first = search rules in
    let step_fits : FitsSigned w32 s.step = search rules in
    let first_is = to_z-of_z w32 s.first first_fits in
    let step_is = to_z-of_z w32 s.step step_fits in
    let cell = counted_cell p c.args.repeat.now (shape_in l) d in
    let set = c.set_whole.ensures.set (variable_in l) cell ∙ ap (λ x. put x (variable_in l) [] (to_z w32 (of_z w32 s.first))) (c.limits_whole.ensures.kept d.limits d.are) ∙ ap (λ x. put m (variable_in l) [] x) first_is in
    let leaves = subst (λ r. Leaves r u new y.new.turns y.result) (λ i. trips_as all l (variable_in l) (first_is i) (step_is i) (c.count_of.ensures i) (map_of p c.set_whole.new.cells) u) y.ensures.leaves in
    subst (λ z. MovesIn p c.args.cells.now y.new.cells (loop_as all z l) t y.new.turns y.result) (sym (says p c.args.repeat.now (shape_in l) d)) (do_moves (scope_in p) (exec all) d.label d.comma (variable_in l) d.limits (out-Loop l).head.line (range_in l) m t u c.if-not-take_turn.ensures (span_values s) (map_of p c.set_whole.new.cells) new y.new.turns y.result (c.in-Ok.ensures.span d.limits d.are).0 set leaves)

pub returns-in-Err-clause-moves : goal.returns-in-Err-clause-moves
returns-in-Err-clause-moves g c =
    let p = c.args.program.now in
    let all = items_in p in
    let l = c.args.repeated.now in
    let d = c.requires.repeats in
    let line = (out-Loop l).head.line in
    let m = map_of p c.args.cells.now in
    let t = c.args.turns.now in
    let u = c.take_turn.new.turns in
    let k = c.in-Err.kind in
    subst (λ s. MovesIn p c.args.cells.now c.limits_whole.new.cells (loop_as all s l) t u (fault_at k line)) (sym (says p c.args.repeat.now (shape_in l) d)) (subst (λ z. Moves (λ go. looped (scope_in p) (exec all) (doing d.label d.comma (variable_in l) d.limits) line (range_in l) m t go) t z u (fault_at k line)) (sym (c.in-Err.ensures.kept d.limits d.are)) (do_faults (scope_in p) (exec all) d.label d.comma (variable_in l) d.limits line (range_in l) m t u c.if-not-take_turn.ensures k (c.in-Err.ensures.span d.limits d.are)))
