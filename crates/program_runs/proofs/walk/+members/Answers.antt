use Rattle.std.proofs.Common.{to_z, of_z, pos, ◌+◌, ◌-◌, ◌≡◌, ◌≤◌, true, false, [], ap, sym, ◌∙◌, subst, refl, rules, arith, Result, Ok, Err}
use Rattle.std.specs.Prelude.{FitsSigned, IfOk}
use Rattle.std.specs.Int.{w32}
use Rattle.std.proofs.lemmas.Bool.{false≢true}
use Rattle.std.proofs.lemmas.Int.{to_z-of_z}
use Rattle.std.proofs.lemmas.Result.{err_from_is_err_and}
use Rattle.meaning.specs.declared.ending.FaultKind.TheVariants.{F4}
use Rattle.meaning.specs.declared.ending.Outcome.TheVariants as outcomes
use Rattle.meaning.specs.declared.syntax.Member.{Member, Plain, Loop, Block}
use Rattle.meaning.specs.declared.syntax.Loop.{out-Loop}
use Rattle.meaning.specs.declared.syntax.Block.{out-Block}
use Rattle.meaning.specs.Syntax.{doing, shape_tree, limits_tree}
use Rattle.meaning.specs.Trees.{flat, flat_arms, members_tree, arms_tree}
use Rattle.meaning.specs.Trips.{trip_count}
use Rattle.meaning.specs.Maps.{put}
use Rattle.meaning.specs.Execution.{onward, exec, looped, repeated, while_of, arms_from}
use Rattle.meaning.specs.Promise.{Told}
use Rattle.storage.specs.Checked.{items_in}
use Rattle.storage.specs.Starts.{map_of}
use Rattle.values.specs.Programs.{scope_in}
use Rattle.program.specs.Programs.{IsStatement}
use Rattle.evaluator.specs.declared.passed.Passed.{Passed}
use Rattle.evaluator.specs.Known.{AreStatements}
use Rattle.evaluator.specs.Limited.{span_values}
use Rattle.evaluator.specs.Member.{member_does}
use Rattle.evaluator.specs.Over.{loop_as, while_as}
use Rattle.evaluator.specs.Passed.{SpendsBy, ended_by as ended_so, passed_behind}
use Rattle.evaluator.specs.Statements.{Adds, Moves, Comes}
use Rattle.evaluator.proofs.Composed.{comes_none, if_ok_ended, if_ok_so, moves_same}
use Rattle.evaluator.proofs.Executed.{fault_at, passes_over}
use Rattle.evaluator.specs.Quiet.{variable_of}
use Rattle.evaluator.proofs.Looped.{counted_cell, says, from_place, while_none, while_is, while_ends, while_faults, known_at, head_known, range_known, arms_known, arm_known, body_known, loop_does, block_does, unless_do, do_unmoved, do_faults, arms_left, no_arm_left, next_arm, test_ends}
use Rattle.evaluator.proofs.Turning.{smaller_on, smaller_back, after_test, spends_less, spends_behind}
use denote.Param.Weighed.{at_most, most}
use Rattle.meaning.proofs.syntax.Member.TheLaws.{the_size}
use Rattle.meaning.proofs.syntax.Arm.TheLaws.{the_size as arm_size}
use Rattle.meaning.specs.declared.syntax.Member.TheViews.{size_is-Loop, sized-Loop, sized-Block, size_is-Arm, size_is-Block, weight-Arm-body, weight-Block-arms}
use Rattle.program_runs.specs.declared.halt.Halt.{Halt}
use Rattle.whole_runs.specs.Trips.{trips_in}
use Rattle.whole_runs.proofs.Advancing.{is_end, quiet_loop, several}
use Rattle.program_runs.specs.Allowed.{IsAllowed, AreArmsAllowed}
use Rattle.program_runs.specs.Quiet.{IsLoopOf}
use Rattle.program_runs.specs.Walk.{AdvancesIn, IsOver, Runs, SoFar, Steps, Halts, PassesIn}
use Rattle.program_runs.proofs.Allowing.{allowed_at, allowed_range, leaves_its_variable, quiet_unless_loud, allowed_arms, allowed_body}
use Rattle.program_runs.proofs.Composed.{so_far_none, steps_same, steps_quietly, passes_ended, passes_same, while_walks, while_halts, member_goes, member_again, member_jumps, member_leaves, member_ends, member_halts, last_member, last_trip, range_halts, range_ends, trip_goes, sum_faults, none_left, some_go, some_end, some_halt, quiet_over, do_runs, arm_steps}
use Rattle.program_runs.proofs.walk.+members.Goals as goal

pub walk_arms-loop-arm-init : goal.walk_arms-loop-arm-init
walk_arms-loop-arm-init g t c =
    record { so_far = comes_none _ c.args.turns.now; sized = c.requires.sized; len = refl; same = refl; fewer = omega arith; taken = λ e. absurd (false≢true (sym e)) }

pub walk_arms-test_whole-requires : goal.walk_arms-test_whole-requires
walk_arms-test_whole-requires g t c =
    let p = c.args.program.now in
    let head = arm_known (IsStatement p) c.args.arms.now c.loop-arm.arm-index c.arm-item.result c.loop-arm-test.true c.arm-item.is c.requires.named in
    record { known = head; sized = c.loop-arm.invariant.sized }

pub walk_arms-walk_list-requires : goal.walk_arms-walk_list-requires
walk_arms-walk_list-requires g t c =
    let p = c.args.program.now in
    let program = items_in p in
    let told = g.S.Sink.told in
    let arms = c.args.arms.now in
    let i = c.loop-arm.arm-index in
    let inv = c.loop-arm.invariant in
    let a = c.arm-item.result in
    let t0 = c.args.turns.now in
    let u = c.test_whole.new.turns in
    let lt = c.loop-arm-test.true in
    let is = c.arm-item.is in
    let m = map_of p c.loop-arm.cells in
    let named = subst (λ xs. AreStatements p (flat (members_tree xs))) (sym c.deref.ensures.value) (body_known (IsStatement p) arms i a lt is c.requires.named) in
    let allowed = subst (λ xs. IsAllowed p (members_tree xs)) (sym c.deref.ensures.value) (allowed_body p arms i a lt is c.requires.allowed) in
    let size = at_most arm_size arms i a lt in
    let same = ap arm_size is in
    let inner = weight-Arm-body a.body in
    let outer = size_is-Arm a in
    let body = ap (λ xs. most the_size xs) c.deref.ensures.value in
    let given = c.decreases in
    λ κs h. (omega arith, (search rules, (search rules, (c.requires.ready, ((named, (allowed, (c.in-Ok-true.ensures.len ∙ inv.sized, ap (λ (x : Told). x.refused) inv.same ∙ c.requires.unrefused))))))))

pub walk_arms-returns-in-Ok-true-clause-steps : goal.walk_arms-returns-in-Ok-true-clause-steps
walk_arms-returns-in-Ok-true-clause-steps g t c =
    let p = c.args.program.now in
    let program = items_in p in
    let told = g.S.Sink.told in
    let arms = c.args.arms.now in
    let i = c.loop-arm.arm-index in
    let inv = c.loop-arm.invariant in
    let a = c.arm-item.result in
    let t0 = c.args.turns.now in
    let u = c.test_whole.new.turns in
    let lt = c.loop-arm-test.true in
    let is = c.arm-item.is in
    let m = map_of p c.loop-arm.cells in
    let y = c.walk_list in
    let picks = rw c.in-Ok-true.field-0-test at c.in-Ok-true.ensures.tests in
    subst (λ z. Steps (λ go. arms_left (scope_in p) (exec program) arms true 0 (map_of p c.args.cells.now) t0 go) t0 (map_of p y.new.cells) y.new.turns y.result z (told y.new.sink)) inv.same (arm_steps (scope_in p) (exec program) arms _ t0 c.loop-arm.first i c.loop-arm.turns m inv.so_far a u lt is picks (map_of p y.new.cells) y.new.turns y.result (told c.loop-arm.sink) (told y.new.sink) (subst (λ z. Runs (exec program (members_tree a.body.items) (members_tree a.body.items) z u) u (map_of p y.new.cells) y.new.turns y.result (told c.loop-arm.sink) (told y.new.sink)) c.in-Ok-true.ensures.kept (subst (λ xs. Runs (exec program (members_tree xs) (members_tree xs) (map_of p c.test_whole.new.cells) u) u (map_of p y.new.cells) y.new.turns y.result (told c.loop-arm.sink) (told y.new.sink)) c.deref.ensures.value y.ensures.runs)))

pub walk_arms-returns-in-Ok-true-clause-spends : goal.walk_arms-returns-in-Ok-true-clause-spends
walk_arms-returns-in-Ok-true-clause-spends g t c =
    let p = c.args.program.now in
    let program = items_in p in
    let told = g.S.Sink.told in
    let arms = c.args.arms.now in
    let i = c.loop-arm.arm-index in
    let inv = c.loop-arm.invariant in
    let a = c.arm-item.result in
    let t0 = c.args.turns.now in
    let u = c.test_whole.new.turns in
    let lt = c.loop-arm-test.true in
    let is = c.arm-item.is in
    let m = map_of p c.loop-arm.cells in
    let y = c.walk_list in
    let less = after_test c.loop-arm.first t0 c.loop-arm.turns u inv.fewer inv.taken c.in-Ok-true.ensures.spends c.in-Ok-true.ensures.first in
    if_ok_so y.result _ _ (λ o le. spends_less o t0 y.new.turns (omega arith)) y.ensures.turns

pub walk_arms-returns-in-Ok-true-clause-len : goal.walk_arms-returns-in-Ok-true-clause-len
walk_arms-returns-in-Ok-true-clause-len g t c =
    let p = c.args.program.now in
    let program = items_in p in
    let told = g.S.Sink.told in
    let arms = c.args.arms.now in
    let i = c.loop-arm.arm-index in
    let inv = c.loop-arm.invariant in
    let a = c.arm-item.result in
    let t0 = c.args.turns.now in
    let u = c.test_whole.new.turns in
    let lt = c.loop-arm-test.true in
    let is = c.arm-item.is in
    let m = map_of p c.loop-arm.cells in
    c.walk_list.ensures.len ∙ c.in-Ok-true.ensures.len ∙ inv.len

pub walk_arms-returns-in-Err-clause-steps : goal.walk_arms-returns-in-Err-clause-steps
walk_arms-returns-in-Err-clause-steps g t c =
    let p = c.args.program.now in
    let program = items_in p in
    let told = g.S.Sink.told in
    let arms = c.args.arms.now in
    let i = c.loop-arm.arm-index in
    let inv = c.loop-arm.invariant in
    let a = c.arm-item.result in
    let t0 = c.args.turns.now in
    let u = c.test_whole.new.turns in
    let lt = c.loop-arm-test.true in
    let is = c.arm-item.is in
    let m = map_of p c.loop-arm.cells in
    subst (λ z. Steps (λ go. arms_left (scope_in p) (exec program) arms true 0 (map_of p c.args.cells.now) t0 go) t0 (map_of p c.test_whole.new.cells) u (Ok (outcomes.Fault c.in-Err.fault)) z (told c.loop-arm.sink)) inv.same (steps_quietly (λ go. arms_left (scope_in p) (exec program) arms true 0 (map_of p c.args.cells.now) t0 go) t0 (map_of p c.test_whole.new.cells) u (outcomes.Fault c.in-Err.fault) (told c.loop-arm.sink) (subst (λ z. Moves (λ go. arms_left (scope_in p) (exec program) arms true 0 (map_of p c.args.cells.now) t0 go) t0 z u (outcomes.Fault c.in-Err.fault)) (sym c.in-Err.ensures.kept) (test_ends (scope_in p) (exec program) arms _ t0 c.loop-arm.first i c.loop-arm.turns m inv.so_far a u lt is c.in-Err.fault c.in-Err.ensures.tests)))

pub walk_arms-returns-in-Err-clause-spends : goal.walk_arms-returns-in-Err-clause-spends
walk_arms-returns-in-Err-clause-spends g t c =
    let p = c.args.program.now in
    let program = items_in p in
    let told = g.S.Sink.told in
    let arms = c.args.arms.now in
    let i = c.loop-arm.arm-index in
    let inv = c.loop-arm.invariant in
    let a = c.arm-item.result in
    let t0 = c.args.turns.now in
    let u = c.test_whole.new.turns in
    let lt = c.loop-arm-test.true in
    let is = c.arm-item.is in
    let m = map_of p c.loop-arm.cells in
    let le = c.in-Err.ensures.spends in
    let fewer = inv.fewer in
    omega arith

pub walk_arms-returns-in-Err-clause-len : goal.walk_arms-returns-in-Err-clause-len
walk_arms-returns-in-Err-clause-len g t c =
    let p = c.args.program.now in
    let program = items_in p in
    let told = g.S.Sink.told in
    let arms = c.args.arms.now in
    let i = c.loop-arm.arm-index in
    let inv = c.loop-arm.invariant in
    let a = c.arm-item.result in
    let t0 = c.args.turns.now in
    let u = c.test_whole.new.turns in
    let lt = c.loop-arm-test.true in
    let is = c.arm-item.is in
    let m = map_of p c.loop-arm.cells in
    c.in-Err.ensures.len ∙ inv.len

pub walk_arms-loop-arm-preserved : goal.walk_arms-loop-arm-preserved
walk_arms-loop-arm-preserved g t c =
    let p = c.args.program.now in
    let program = items_in p in
    let told = g.S.Sink.told in
    let arms = c.args.arms.now in
    let i = c.loop-arm.arm-index in
    let inv = c.loop-arm.invariant in
    let a = c.arm-item.result in
    let t0 = c.args.turns.now in
    let u = c.test_whole.new.turns in
    let lt = c.loop-arm-test.true in
    let is = c.arm-item.is in
    let m = map_of p c.loop-arm.cells in
    let picks = rw c.in-Ok-false.field-0-test at c.in-Ok-false.ensures.tests in
    let less = after_test c.loop-arm.first t0 c.loop-arm.turns u inv.fewer inv.taken c.in-Ok-false.ensures.spends c.in-Ok-false.ensures.first in
    record {
      so_far = subst (λ z. Comes (λ go. arms_left (scope_in p) (exec program) arms true 0 (map_of p c.args.cells.now) t0 go) (λ go. arms_left (scope_in p) (exec program) arms false (i + 1) z u go) t0 u) (sym c.in-Ok-false.ensures.kept) (next_arm (scope_in p) (exec program) arms _ t0 c.loop-arm.first i c.loop-arm.turns m inv.so_far a u lt is picks);
      sized = c.in-Ok-false.ensures.len ∙ inv.sized;
      len = c.in-Ok-false.ensures.len ∙ inv.len;
      same = inv.same;
      fewer = omega arith;
      taken = λ e. less;
    }

pub walk_arms-returns-clause-steps : goal.walk_arms-returns-clause-steps
walk_arms-returns-clause-steps g t c =
    let p = c.args.program.now in
    let program = items_in p in
    let told = g.S.Sink.told in
    let arms = c.args.arms.now in
    let inv = c.loop-arm.invariant in
    subst (λ z. Steps (λ go. arms_left (scope_in p) (exec program) arms true 0 (map_of p c.args.cells.now) c.args.turns.now go) c.args.turns.now (map_of p c.loop-arm.cells) c.loop-arm.turns (Ok outcomes.Normal) z (told c.loop-arm.sink)) inv.same (steps_quietly (λ go. arms_left (scope_in p) (exec program) arms true 0 (map_of p c.args.cells.now) c.args.turns.now go) c.args.turns.now (map_of p c.loop-arm.cells) c.loop-arm.turns outcomes.Normal (told c.loop-arm.sink) (no_arm_left (scope_in p) (exec program) arms _ c.args.turns.now c.loop-arm.first c.loop-arm.arm-index c.loop-arm.turns (map_of p c.loop-arm.cells) inv.so_far (omega arith)))

pub walk_arms-returns-clause-spends : goal.walk_arms-returns-clause-spends
walk_arms-returns-clause-spends g t c =
    c.loop-arm.invariant.fewer

pub walk_arms-returns-clause-len : goal.walk_arms-returns-clause-len
walk_arms-returns-clause-len g t c =
    c.loop-arm.invariant.len

pub walk_list-loop-place-init : goal.walk_list-loop-place-init
walk_list-loop-place-init g t c =
    record { so_far = so_far_none _ c.args.turns.now (g.S.Sink.told c.args.sink.now); sized = c.requires.sized; len = refl; unrefused = c.requires.unrefused; fewer = omega arith }

pub walk_list-walk_member-requires : goal.walk_list-walk_member-requires
walk_list-walk_member-requires g t c =
    let p = c.args.program.now in
    let program = items_in p in
    let told = g.S.Sink.told in
    let ms = c.args.members.now in
    let i = c.loop-place.place in
    let inv = c.loop-place.invariant in
    let x = c.index-members-place.result in
    let lt = c.loop-place-test.true in
    let is = c.index-members-place.is in
    let named = known_at (IsStatement p) ms i x lt is c.requires.named in
    let allowed = allowed_at p ms i x lt is c.requires.allowed in
    let size = at_most the_size ms i x lt in
    let same = ap the_size is in
    let given = c.decreases in
    λ κs h. (omega arith, (search rules, (search rules, (c.requires.ready, ((named, (allowed, (inv.sized, inv.unrefused))))))))

pub walk_list-returns-in_err-outcome-clause-runs : goal.walk_list-returns-in_err-outcome-clause-runs
walk_list-returns-in_err-outcome-clause-runs g t c =
    let p = c.args.program.now in
    let program = items_in p in
    let told = g.S.Sink.told in
    let ms = c.args.members.now in
    let i = c.loop-place.place in
    let inv = c.loop-place.invariant in
    let x = c.index-members-place.result in
    let lt = c.loop-place-test.true in
    let is = c.index-members-place.is in
    let m = map_of p c.loop-place.cells in
    let y = c.walk_member in
    let n = map_of p y.new.cells in
    let q = err_from_is_err_and c.from_residual.result c.from_residual.ensures.1 in
    rw (q.1, q.2) (member_halts program ms _ c.args.turns.now i c.loop-place.turns m (told c.args.sink.now) (told c.loop-place.sink) (told y.new.sink) inv.so_far x n y.new.turns lt is _ (c.in_err-outcome.ensures.passes (from_place program ms i)))

pub walk_list-returns-in_err-outcome-clause-len : goal.walk_list-returns-in_err-outcome-clause-len
walk_list-returns-in_err-outcome-clause-len g t c =
    let p = c.args.program.now in
    let program = items_in p in
    let told = g.S.Sink.told in
    let ms = c.args.members.now in
    let i = c.loop-place.place in
    let inv = c.loop-place.invariant in
    let x = c.index-members-place.result in
    let lt = c.loop-place-test.true in
    let is = c.index-members-place.is in
    let m = map_of p c.loop-place.cells in
    let y = c.walk_member in
    let n = map_of p y.new.cells in
    c.in_err-outcome.ensures.len ∙ inv.len

pub walk_list-loop-place-preserved-in-Normal : goal.walk_list-loop-place-preserved-in-Normal
walk_list-loop-place-preserved-in-Normal g t c =
    let p = c.args.program.now in
    let program = items_in p in
    let told = g.S.Sink.told in
    let ms = c.args.members.now in
    let i = c.loop-place.place in
    let inv = c.loop-place.invariant in
    let x = c.index-members-place.result in
    let lt = c.loop-place-test.true in
    let is = c.index-members-place.is in
    let m = map_of p c.loop-place.cells in
    let y = c.walk_member in
    let n = map_of p y.new.cells in
    let steps = (rw c.in-Normal.is at (rw c.in-Ended.is at c.in_ok-outcome.ensures.passes)) (from_place program ms i) in
    let spends = rw c.in-Normal.is at (rw c.in-Ended.is at c.in_ok-outcome.ensures.spends) in
    let fewer = inv.fewer in
    record {
      so_far = member_goes program ms _ c.args.turns.now i c.loop-place.turns m (told c.args.sink.now) (told c.loop-place.sink) (told y.new.sink) inv.so_far x n y.new.turns lt is steps;
      sized = c.in_ok-outcome.ensures.len ∙ inv.sized;
      len = c.in_ok-outcome.ensures.len ∙ inv.len;
      unrefused = steps.bytes.stays ∙ inv.unrefused;
      fewer = omega arith;
    }

pub walk_list-loop-place-preserved-in-Some : goal.walk_list-loop-place-preserved-in-Some
walk_list-loop-place-preserved-in-Some g t c =
    let p = c.args.program.now in
    let program = items_in p in
    let told = g.S.Sink.told in
    let ms = c.args.members.now in
    let i = c.loop-place.place in
    let inv = c.loop-place.invariant in
    let x = c.index-members-place.result in
    let lt = c.loop-place-test.true in
    let is = c.index-members-place.is in
    let m = map_of p c.loop-place.cells in
    let y = c.walk_member in
    let n = map_of p y.new.cells in
    let steps = (rw c.in-Left.is at (rw c.in-Ended.is at c.in_ok-outcome.ensures.passes)) (from_place program ms i) in
    let spends = rw c.in-Left.is at (rw c.in-Ended.is at c.in_ok-outcome.ensures.spends) in
    let fewer = inv.fewer in
    record {
      so_far = member_jumps program ms _ c.args.turns.now i c.loop-place.turns m (told c.args.sink.now) (told c.loop-place.sink) (told y.new.sink) inv.so_far x n y.new.turns lt is c.in-Left.label c.in-Some.next c.in-Some.ensures.at steps;
      sized = c.in_ok-outcome.ensures.len ∙ inv.sized;
      len = c.in_ok-outcome.ensures.len ∙ inv.len;
      unrefused = steps.bytes.stays ∙ inv.unrefused;
      fewer = omega arith;
    }

pub walk_list-loop-place-smaller-in-Normal : goal.walk_list-loop-place-smaller-in-Normal
walk_list-loop-place-smaller-in-Normal g t c =
    let p = c.args.program.now in
    let program = items_in p in
    let told = g.S.Sink.told in
    let ms = c.args.members.now in
    let i = c.loop-place.place in
    let inv = c.loop-place.invariant in
    let x = c.index-members-place.result in
    let lt = c.loop-place-test.true in
    let is = c.index-members-place.is in
    let m = map_of p c.loop-place.cells in
    let y = c.walk_member in
    let n = map_of p y.new.cells in
    let spends = rw c.in-Normal.is at (rw c.in-Ended.is at c.in_ok-outcome.ensures.spends) in
    smaller_on _ i c.loop-place.turns y.new.turns lt spends

pub walk_list-loop-place-smaller-in-Some : goal.walk_list-loop-place-smaller-in-Some
walk_list-loop-place-smaller-in-Some g t c =
    let p = c.args.program.now in
    let program = items_in p in
    let told = g.S.Sink.told in
    let ms = c.args.members.now in
    let i = c.loop-place.place in
    let inv = c.loop-place.invariant in
    let x = c.index-members-place.result in
    let lt = c.loop-place-test.true in
    let is = c.index-members-place.is in
    let m = map_of p c.loop-place.cells in
    let y = c.walk_member in
    let n = map_of p y.new.cells in
    let spends = rw c.in-Left.is at (rw c.in-Ended.is at c.in_ok-outcome.ensures.spends) in
    smaller_back _ i c.in-Some.next c.loop-place.turns y.new.turns spends

pub walk_list-returns-in-None-clause-runs : goal.walk_list-returns-in-None-clause-runs
walk_list-returns-in-None-clause-runs g t c =
    let p = c.args.program.now in
    let program = items_in p in
    let told = g.S.Sink.told in
    let ms = c.args.members.now in
    let i = c.loop-place.place in
    let inv = c.loop-place.invariant in
    let x = c.index-members-place.result in
    let lt = c.loop-place-test.true in
    let is = c.index-members-place.is in
    let m = map_of p c.loop-place.cells in
    let y = c.walk_member in
    let n = map_of p y.new.cells in
    let steps = (rw c.in-Left.is at (rw c.in-Ended.is at c.in_ok-outcome.ensures.passes)) (from_place program ms i) in
    member_leaves program ms _ c.args.turns.now i c.loop-place.turns m (told c.args.sink.now) (told c.loop-place.sink) (told y.new.sink) inv.so_far x n y.new.turns lt is c.in-Left.label c.in-None.ensures.at steps

pub walk_list-returns-in-None-clause-turns : goal.walk_list-returns-in-None-clause-turns
walk_list-returns-in-None-clause-turns g t c =
    let p = c.args.program.now in
    let program = items_in p in
    let told = g.S.Sink.told in
    let ms = c.args.members.now in
    let i = c.loop-place.place in
    let inv = c.loop-place.invariant in
    let x = c.index-members-place.result in
    let lt = c.loop-place-test.true in
    let is = c.index-members-place.is in
    let m = map_of p c.loop-place.cells in
    let y = c.walk_member in
    let n = map_of p y.new.cells in
    let spends = rw c.in-Left.is at (rw c.in-Ended.is at c.in_ok-outcome.ensures.spends) in
    let fewer = inv.fewer in
    omega arith

pub walk_list-returns-in-None-clause-len : goal.walk_list-returns-in-None-clause-len
walk_list-returns-in-None-clause-len g t c =
    let p = c.args.program.now in
    let program = items_in p in
    let told = g.S.Sink.told in
    let ms = c.args.members.now in
    let i = c.loop-place.place in
    let inv = c.loop-place.invariant in
    let x = c.index-members-place.result in
    let lt = c.loop-place-test.true in
    let is = c.index-members-place.is in
    let m = map_of p c.loop-place.cells in
    let y = c.walk_member in
    let n = map_of p y.new.cells in
    c.in_ok-outcome.ensures.len ∙ inv.len

pub walk_list-returns-in-Stopped-clause-runs : goal.walk_list-returns-in-Stopped-clause-runs
walk_list-returns-in-Stopped-clause-runs g t c =
    let p = c.args.program.now in
    let program = items_in p in
    let told = g.S.Sink.told in
    let ms = c.args.members.now in
    let i = c.loop-place.place in
    let inv = c.loop-place.invariant in
    let x = c.index-members-place.result in
    let lt = c.loop-place-test.true in
    let is = c.index-members-place.is in
    let m = map_of p c.loop-place.cells in
    let y = c.walk_member in
    let n = map_of p y.new.cells in
    let steps = (rw c.in-Stopped.is at (rw c.in-Ended.is at c.in_ok-outcome.ensures.passes)) (from_place program ms i) in
    member_ends program ms _ c.args.turns.now i c.loop-place.turns m (told c.args.sink.now) (told c.loop-place.sink) (told y.new.sink) inv.so_far x n y.new.turns lt is (outcomes.Stopped c.in-Stopped.line) steps

pub walk_list-returns-in-Stopped-clause-turns : goal.walk_list-returns-in-Stopped-clause-turns
walk_list-returns-in-Stopped-clause-turns g t c =
    let p = c.args.program.now in
    let program = items_in p in
    let told = g.S.Sink.told in
    let ms = c.args.members.now in
    let i = c.loop-place.place in
    let inv = c.loop-place.invariant in
    let x = c.index-members-place.result in
    let lt = c.loop-place-test.true in
    let is = c.index-members-place.is in
    let m = map_of p c.loop-place.cells in
    let y = c.walk_member in
    let n = map_of p y.new.cells in
    let spends = rw c.in-Stopped.is at (rw c.in-Ended.is at c.in_ok-outcome.ensures.spends) in
    let fewer = inv.fewer in
    omega arith

pub walk_list-returns-in-Stopped-clause-len : goal.walk_list-returns-in-Stopped-clause-len
walk_list-returns-in-Stopped-clause-len g t c =
    let p = c.args.program.now in
    let program = items_in p in
    let told = g.S.Sink.told in
    let ms = c.args.members.now in
    let i = c.loop-place.place in
    let inv = c.loop-place.invariant in
    let x = c.index-members-place.result in
    let lt = c.loop-place-test.true in
    let is = c.index-members-place.is in
    let m = map_of p c.loop-place.cells in
    let y = c.walk_member in
    let n = map_of p y.new.cells in
    c.in_ok-outcome.ensures.len ∙ inv.len

pub walk_list-returns-in-Fault-clause-runs : goal.walk_list-returns-in-Fault-clause-runs
walk_list-returns-in-Fault-clause-runs g t c =
    let p = c.args.program.now in
    let program = items_in p in
    let told = g.S.Sink.told in
    let ms = c.args.members.now in
    let i = c.loop-place.place in
    let inv = c.loop-place.invariant in
    let x = c.index-members-place.result in
    let lt = c.loop-place-test.true in
    let is = c.index-members-place.is in
    let m = map_of p c.loop-place.cells in
    let y = c.walk_member in
    let n = map_of p y.new.cells in
    let steps = (rw c.in-Fault.is at (rw c.in-Ended.is at c.in_ok-outcome.ensures.passes)) (from_place program ms i) in
    member_ends program ms _ c.args.turns.now i c.loop-place.turns m (told c.args.sink.now) (told c.loop-place.sink) (told y.new.sink) inv.so_far x n y.new.turns lt is (outcomes.Fault c.in-Fault.fault) steps

pub walk_list-returns-in-Fault-clause-turns : goal.walk_list-returns-in-Fault-clause-turns
walk_list-returns-in-Fault-clause-turns g t c =
    let p = c.args.program.now in
    let program = items_in p in
    let told = g.S.Sink.told in
    let ms = c.args.members.now in
    let i = c.loop-place.place in
    let inv = c.loop-place.invariant in
    let x = c.index-members-place.result in
    let lt = c.loop-place-test.true in
    let is = c.index-members-place.is in
    let m = map_of p c.loop-place.cells in
    let y = c.walk_member in
    let n = map_of p y.new.cells in
    let spends = rw c.in-Fault.is at (rw c.in-Ended.is at c.in_ok-outcome.ensures.spends) in
    let fewer = inv.fewer in
    omega arith

pub walk_list-returns-in-Fault-clause-len : goal.walk_list-returns-in-Fault-clause-len
walk_list-returns-in-Fault-clause-len g t c =
    let p = c.args.program.now in
    let program = items_in p in
    let told = g.S.Sink.told in
    let ms = c.args.members.now in
    let i = c.loop-place.place in
    let inv = c.loop-place.invariant in
    let x = c.index-members-place.result in
    let lt = c.loop-place-test.true in
    let is = c.index-members-place.is in
    let m = map_of p c.loop-place.cells in
    let y = c.walk_member in
    let n = map_of p y.new.cells in
    c.in_ok-outcome.ensures.len ∙ inv.len

pub walk_list-loop-place-preserved : goal.walk_list-loop-place-preserved
walk_list-loop-place-preserved g t c =
    let p = c.args.program.now in
    let program = items_in p in
    let told = g.S.Sink.told in
    let ms = c.args.members.now in
    let i = c.loop-place.place in
    let inv = c.loop-place.invariant in
    let x = c.index-members-place.result in
    let lt = c.loop-place-test.true in
    let is = c.index-members-place.is in
    let m = map_of p c.loop-place.cells in
    let y = c.walk_member in
    let n = map_of p y.new.cells in
    let again = (rw c.in-Again.is at c.in_ok-outcome.ensures.passes) (from_place program ms i) in
    let spends = rw c.in-Again.is at c.in_ok-outcome.ensures.spends in
    let fewer = inv.fewer in
    record {
      so_far = member_again program ms _ c.args.turns.now i c.loop-place.turns m (told c.args.sink.now) (told c.loop-place.sink) (told y.new.sink) inv.so_far x n y.new.turns lt is again;
      sized = c.in_ok-outcome.ensures.len ∙ inv.sized;
      len = c.in_ok-outcome.ensures.len ∙ inv.len;
      unrefused = again.bytes.stays ∙ inv.unrefused;
      fewer = omega arith;
    }

pub walk_list-loop-place-smaller : goal.walk_list-loop-place-smaller
walk_list-loop-place-smaller g t c =
    let i = c.loop-place.place in
    let spends = rw c.in-Again.is at c.in_ok-outcome.ensures.spends in
    smaller_back _ i i c.loop-place.turns c.walk_member.new.turns spends

pub walk_list-returns-clause-runs : goal.walk_list-returns-clause-runs
walk_list-returns-clause-runs g t c =
    let p = c.args.program.now in
    let program = items_in p in
    let told = g.S.Sink.told in
    let ms = c.args.members.now in
    let i = c.loop-place.place in
    let inv = c.loop-place.invariant in
    last_member program ms _ c.args.turns.now i c.loop-place.turns (map_of p c.loop-place.cells) (told c.args.sink.now) (told c.loop-place.sink) inv.so_far (let ge = c.loop-place-test.false in omega arith)

pub walk_list-returns-clause-turns : goal.walk_list-returns-clause-turns
walk_list-returns-clause-turns g t c =
    c.loop-place.invariant.fewer

pub walk_list-returns-clause-len : goal.walk_list-returns-clause-len
walk_list-returns-clause-len g t c =
    c.loop-place.invariant.len

pub walk_member-walk_arms-requires : goal.walk_member-walk_arms-requires
walk_member-walk_arms-requires g t c =
    let p = c.args.program.now in
    let named = subst (λ xs. AreStatements p (flat_arms (arms_tree xs))) (sym c.deref.ensures.value) (arms_known (IsStatement p) c.args.member.now c.in-Block.block c.in-Block.is c.requires.named) in
    let allowed = subst (λ xs. AreArmsAllowed p (arms_tree xs)) (sym c.deref.ensures.value) (allowed_arms p c.args.member.now c.in-Block.block c.in-Block.is c.requires.allowed) in
    let given = c.decreases in
    let same = ap the_size c.in-Block.is in
    let size = sized-Block c.in-Block.block in
    let inner = weight-Block-arms (out-Block c.in-Block.block).arms in
    let outer = size_is-Block c.in-Block.block in
    let arms = ap (λ xs. most arm_size xs) c.deref.ensures.value in
    λ κs h. (omega arith, (search rules, (search rules, (c.requires.ready, ((named, (allowed, (c.requires.sized, c.requires.unrefused))))))))

pub walk_member-while_in-requires : goal.walk_member-while_in-requires
walk_member-while_in-requires g t c =
    head_known (IsStatement c.args.program.now) c.args.member.now c.in-Loop.repeated c.in-Loop.is c.requires.named

pub walk_member-walk_while-requires : goal.walk_member-walk_while-requires
walk_member-walk_while-requires g t c =
    let p = c.args.program.now in
    let range = range_known (IsStatement p) c.args.member.now c.in-Loop.repeated c.in-Loop.is c.requires.named in
    let allowed = allowed_range p c.args.member.now c.in-Loop.repeated c.in-Loop.is c.requires.allowed in
    let given = c.decreases in
    let same = ap the_size c.in-Loop.is in
    let size = sized-Loop c.in-Loop.repeated in
    λ κs h. (omega arith, (search rules, (search rules, (c.requires.ready, (range, (allowed, (c.in-Some.ensures, (c.requires.sized, c.requires.unrefused))))))))

pub walk_member-returns-in-Plain-clause-passes : goal.walk_member-returns-in-Plain-clause-passes
walk_member-returns-in-Plain-clause-passes g t c =
    let p = c.args.program.now in
    let program = items_in p in
    let told = g.S.Sink.told in
    let m = map_of p c.args.cells.now in
    let t0 = c.args.turns.now in
    let y = c.execute_item in
    let old = told c.args.sink.now in
    let new = told y.new.sink in
    let PassedAs : Member → Result Passed Halt → Type 0 = λ x r. PassesIn p c.args.cells.now y.new.cells (member_does program (exec program) x) t0 y.new.turns r old new in
    subst (λ r. PassedAs c.args.member.now r) (sym c.ended.ensures) (subst (λ x. PassedAs x (ended_so y.result)) (sym c.in-Plain.is) (λ again. passes_ended (λ go. member_does program (exec program) (Plain c.in-Plain.item) again m t0 go) t0 again (map_of p y.new.cells) y.new.turns y.result old new y.ensures.steps))

pub walk_member-returns-in-Plain-clause-spends : goal.walk_member-returns-in-Plain-clause-spends
walk_member-returns-in-Plain-clause-spends g t c =
    let y = c.execute_item in
    subst (λ r. IfOk r (λ q. SpendsBy q c.args.turns.now y.new.turns)) (sym c.ended.ensures) (if_ok_ended y.result (λ q. SpendsBy q c.args.turns.now y.new.turns) y.ensures.spends)

pub walk_member-returns-in-Some-clause-passes : goal.walk_member-returns-in-Some-clause-passes
walk_member-returns-in-Some-clause-passes g t c =
    let p = c.args.program.now in
    let program = items_in p in
    let told = g.S.Sink.told in
    let m = map_of p c.args.cells.now in
    let t0 = c.args.turns.now in
    let y = c.walk_while in
    let old = told c.args.sink.now in
    let new = told y.new.sink in
    let PassedAs : Member → Result Passed Halt → Type 0 = λ x r. PassesIn p c.args.cells.now y.new.cells (member_does program (exec program) x) t0 y.new.turns r old new in
    let l = c.in-Loop.repeated in
    subst (λ x. PassedAs x y.result) (sym c.in-Loop.is) (λ again. passes_same (λ go. while_as program l again m t0 go) (λ go. member_does program (exec program) (Loop l) again m t0 go) t0 again (map_of p y.new.cells) y.new.turns y.result old new (λ go. loop_does program (exec program) l again m t0 go) (y.ensures.passes again))

pub walk_member-returns-in-None-clause-passes : goal.walk_member-returns-in-None-clause-passes
walk_member-returns-in-None-clause-passes g t c =
    let p = c.args.program.now in
    let program = items_in p in
    let told = g.S.Sink.told in
    let m = map_of p c.args.cells.now in
    let t0 = c.args.turns.now in
    let y = c.walk_loop in
    let old = told c.args.sink.now in
    let new = told y.new.sink in
    let PassedAs : Member → Result Passed Halt → Type 0 = λ x r. PassesIn p c.args.cells.now y.new.cells (member_does program (exec program) x) t0 y.new.turns r old new in
    let l = c.in-Loop.repeated in
    let shape = shape_tree (out-Loop l).head.form.shape.value in
    subst (λ r. PassedAs c.args.member.now r) (sym c.ended-in-None.ensures) (subst (λ x. PassedAs x (ended_so y.result)) (sym c.in-Loop.is) (λ again. passes_ended (λ go. member_does program (exec program) (Loop l) again m t0 go) t0 again (map_of p y.new.cells) y.new.turns y.result old new (steps_same (λ go. loop_as program shape l m t0 go) (λ go. member_does program (exec program) (Loop l) again m t0 go) t0 (map_of p y.new.cells) y.new.turns y.result old new (λ go. loop_does program (exec program) l again m t0 go ∙ while_none program l c.in-None.ensures again m t0 go) y.ensures.steps)))

pub walk_member-returns-in-None-clause-spends : goal.walk_member-returns-in-None-clause-spends
walk_member-returns-in-None-clause-spends g t c =
    let y = c.walk_loop in
    subst (λ r. IfOk r (λ q. SpendsBy q c.args.turns.now y.new.turns)) (sym c.ended-in-None.ensures) (if_ok_ended y.result (λ q. SpendsBy q c.args.turns.now y.new.turns) y.ensures.spends)

pub walk_member-returns-in-Block-clause-passes : goal.walk_member-returns-in-Block-clause-passes
walk_member-returns-in-Block-clause-passes g t c =
    let p = c.args.program.now in
    let program = items_in p in
    let told = g.S.Sink.told in
    let m = map_of p c.args.cells.now in
    let t0 = c.args.turns.now in
    let y = c.walk_arms in
    let old = told c.args.sink.now in
    let new = told y.new.sink in
    let PassedAs : Member → Result Passed Halt → Type 0 = λ x r. PassesIn p c.args.cells.now y.new.cells (member_does program (exec program) x) t0 y.new.turns r old new in
    let b = c.in-Block.block in
    subst (λ r. PassedAs c.args.member.now r) (sym c.ended-in-Block.ensures) (subst (λ x. PassedAs x (ended_so y.result)) (sym c.in-Block.is) (λ again. passes_ended (λ go. member_does program (exec program) (Block b) again m t0 go) t0 again (map_of p y.new.cells) y.new.turns y.result old new (steps_same (λ go. arms_from (scope_in p) (exec program) true (arms_tree (out-Block b).arms.items) m t0 go) (λ go. member_does program (exec program) (Block b) again m t0 go) t0 (map_of p y.new.cells) y.new.turns y.result old new (λ go. block_does program (exec program) b again m t0 go) (subst (λ xs. Steps (λ go. arms_from (scope_in p) (exec program) true (arms_tree xs) m t0 go) t0 (map_of p y.new.cells) y.new.turns y.result old new) c.deref.ensures.value y.ensures.steps))))

pub walk_member-returns-in-Block-clause-spends : goal.walk_member-returns-in-Block-clause-spends
walk_member-returns-in-Block-clause-spends g t c =
    let y = c.walk_arms in
    subst (λ r. IfOk r (λ q. SpendsBy q c.args.turns.now y.new.turns)) (sym c.ended-in-Block.ensures) (if_ok_ended y.result (λ q. SpendsBy q c.args.turns.now y.new.turns) y.ensures.spends)

pub walk_while-walk_list-requires : goal.walk_while-walk_list-requires
walk_while-walk_list-requires g t c =
    let p = c.args.program.now in
    let l = c.args.repeated.now in
    let named = subst (λ xs. AreStatements p (flat (members_tree xs))) (sym c.deref.ensures.value) c.requires.named in
    let allowed = subst (λ xs. IsAllowed p (members_tree xs)) (sym c.deref.ensures.value) c.requires.allowed in
    let given = c.decreases in
    let whole = size_is-Loop l in
    let body = ap (λ xs. most the_size xs) c.deref.ensures.value in
    λ κs h. (omega arith, (search rules, (search rules, (c.requires.ready, (named, (allowed, (c.in-Ok-true.ensures.len ∙ c.requires.sized, c.requires.unrefused)))))))

pub walk_while-returns-in_err-outcome-in-Ok-true-clause-passes : goal.walk_while-returns-in_err-outcome-in-Ok-true-clause-passes
walk_while-returns-in_err-outcome-in-Ok-true-clause-passes g t c =
    let p = c.args.program.now in
    let program = items_in p in
    let told = g.S.Sink.told in
    let l = c.args.repeated.now in
    let line = (out-Loop l).head.line in
    let range = members_tree (out-Loop l).range.items in
    let d = c.requires.whiles in
    let t0 = c.args.turns.now in
    let u = c.condition_whole.new.turns in
    let m = map_of p c.args.cells.now in
    let old = told c.args.sink.now in
    let y = c.walk_list in
    let test = (rw c.in-Ok-true.field-0-test at c.in-Ok-true.ensures.tests) d.condition d.code in
    let runs = subst (λ z. Halts (exec program range range z u).pieces c.in_err-outcome-in-Ok-true.field-0.0 old (told y.new.sink)) (c.in-Ok-true.ensures.kept d.condition d.code) (subst (λ xs. Halts (exec program (members_tree xs) (members_tree xs) (map_of p c.condition_whole.new.cells) u).pieces c.in_err-outcome-in-Ok-true.field-0.0 old (told y.new.sink)) c.deref.ensures.value c.in_err-outcome-in-Ok-true.ensures.runs) in
    let q = err_from_is_err_and c.from_residual.result c.from_residual.ensures.1 in
    rw (q.1, q.2) (λ again. passes_same (λ go. repeated (scope_in p) (exec program) d.condition line range again m t0 go) (λ go. while_as program l again m t0 go) t0 again (map_of p y.new.cells) y.new.turns (Err _) old (told y.new.sink) (while_is program l d.condition (ap while_of d.is) again m t0) (while_halts (scope_in p) (exec program) d.condition line range again m t0 u test (map_of p y.new.cells) y.new.turns old (told y.new.sink) _ runs))

pub walk_while-returns-in_err-outcome-in-Ok-true-clause-len : goal.walk_while-returns-in_err-outcome-in-Ok-true-clause-len
walk_while-returns-in_err-outcome-in-Ok-true-clause-len g t c =
    c.in_err-outcome-in-Ok-true.ensures.len ∙ c.in-Ok-true.ensures.len

pub walk_while-returns-in_ok-outcome-in-Ok-true-clause-passes : goal.walk_while-returns-in_ok-outcome-in-Ok-true-clause-passes
walk_while-returns-in_ok-outcome-in-Ok-true-clause-passes g t c =
    let p = c.args.program.now in
    let program = items_in p in
    let told = g.S.Sink.told in
    let l = c.args.repeated.now in
    let line = (out-Loop l).head.line in
    let range = members_tree (out-Loop l).range.items in
    let d = c.requires.whiles in
    let t0 = c.args.turns.now in
    let u = c.condition_whole.new.turns in
    let m = map_of p c.args.cells.now in
    let old = told c.args.sink.now in
    let y = c.walk_list in
    let o = c.in_ok-outcome-in-Ok-true.outcome in
    let test = (rw c.in-Ok-true.field-0-test at c.in-Ok-true.ensures.tests) d.condition d.code in
    let runs = subst (λ z. Runs (exec program range range z u) u (map_of p y.new.cells) y.new.turns (Ok o) old (told y.new.sink)) (c.in-Ok-true.ensures.kept d.condition d.code) (subst (λ xs. Runs (exec program (members_tree xs) (members_tree xs) (map_of p c.condition_whole.new.cells) u) u (map_of p y.new.cells) y.new.turns (Ok o) old (told y.new.sink)) c.deref.ensures.value c.in_ok-outcome-in-Ok-true.ensures.runs) in
    subst (λ q. PassesIn p c.args.cells.now y.new.cells (while_as program l) t0 y.new.turns (Ok q) old (told y.new.sink)) (sym c.behind_range.ensures) (λ again. passes_same (λ go. repeated (scope_in p) (exec program) d.condition line range again m t0 go) (λ go. while_as program l again m t0 go) t0 again (map_of p y.new.cells) y.new.turns (Ok (passed_behind o)) old (told y.new.sink) (while_is program l d.condition (ap while_of d.is) again m t0) (while_walks (scope_in p) (exec program) d.condition line range again m t0 u test (map_of p y.new.cells) y.new.turns old (told y.new.sink) o runs))

pub walk_while-returns-in_ok-outcome-in-Ok-true-clause-spends : goal.walk_while-returns-in_ok-outcome-in-Ok-true-clause-spends
walk_while-returns-in_ok-outcome-in-Ok-true-clause-spends g t c =
    let taken = c.in-Ok-true.ensures.taken in
    let y = c.walk_list in
    let fewer = c.in_ok-outcome-in-Ok-true.ensures.turns in
    subst (λ q. SpendsBy q c.args.turns.now y.new.turns) (sym c.behind_range.ensures) (spends_behind c.in_ok-outcome-in-Ok-true.outcome c.args.turns.now y.new.turns (omega arith))

pub walk_while-returns-in_ok-outcome-in-Ok-true-clause-len : goal.walk_while-returns-in_ok-outcome-in-Ok-true-clause-len
walk_while-returns-in_ok-outcome-in-Ok-true-clause-len g t c =
    c.in_ok-outcome-in-Ok-true.ensures.len ∙ c.in-Ok-true.ensures.len

pub walk_while-returns-in-Ok-false-clause-passes : goal.walk_while-returns-in-Ok-false-clause-passes
walk_while-returns-in-Ok-false-clause-passes g t c =
    let p = c.args.program.now in
    let program = items_in p in
    let told = g.S.Sink.told in
    let l = c.args.repeated.now in
    let line = (out-Loop l).head.line in
    let range = members_tree (out-Loop l).range.items in
    let d = c.requires.whiles in
    let t0 = c.args.turns.now in
    let u = c.condition_whole.new.turns in
    let m = map_of p c.args.cells.now in
    let old = told c.args.sink.now in
    let test = (rw c.in-Ok-false.field-0-test at c.in-Ok-false.ensures.tests) d.condition d.code in
    let n = map_of p c.condition_whole.new.cells in
    λ again. steps_quietly (λ go. while_as program l again m t0 go) t0 n u outcomes.Normal old (subst (λ z. Moves (λ go. while_as program l again m t0 go) t0 z u outcomes.Normal) (sym (c.in-Ok-false.ensures.kept d.condition d.code)) (moves_same (λ go. repeated (scope_in p) (exec program) d.condition line range again m t0 go) (λ go. while_as program l again m t0 go) t0 m u outcomes.Normal (while_is program l d.condition (ap while_of d.is) again m t0) (while_ends (scope_in p) (exec program) d.condition line range again m t0 u test)))

pub walk_while-returns-in-Err-clause-passes : goal.walk_while-returns-in-Err-clause-passes
walk_while-returns-in-Err-clause-passes g t c =
    let p = c.args.program.now in
    let program = items_in p in
    let told = g.S.Sink.told in
    let l = c.args.repeated.now in
    let line = (out-Loop l).head.line in
    let range = members_tree (out-Loop l).range.items in
    let d = c.requires.whiles in
    let t0 = c.args.turns.now in
    let u = c.condition_whole.new.turns in
    let m = map_of p c.args.cells.now in
    let old = told c.args.sink.now in
    let f = c.in-Err.fault in
    let n = map_of p c.condition_whole.new.cells in
    λ again. steps_quietly (λ go. while_as program l again m t0 go) t0 n u (outcomes.Fault f) old (subst (λ z. Moves (λ go. while_as program l again m t0 go) t0 z u (outcomes.Fault f)) (sym (c.in-Err.ensures.kept d.condition d.code)) (moves_same (λ go. repeated (scope_in p) (exec program) d.condition line range again m t0 go) (λ go. while_as program l again m t0 go) t0 m u (outcomes.Fault f) (while_is program l d.condition (ap while_of d.is) again m t0) (while_faults (scope_in p) (exec program) d.condition line range again m t0 u f (c.in-Err.ensures.tests d.condition d.code))))

pub walk_trip-walk_list-requires : goal.walk_trip-walk_list-requires
walk_trip-walk_list-requires g t c =
    let p = c.args.program.now in
    let l = c.args.repeated.now in
    let w = c.requires.walked in
    let named = subst (λ xs. AreStatements p (flat (members_tree xs))) (sym c.deref.ensures.value) w.named in
    let allowed = subst (λ xs. IsAllowed p (members_tree xs)) (sym c.deref.ensures.value) w.allowed in
    let given = c.decreases in
    let whole = size_is-Loop l in
    let body = ap (λ xs. most the_size xs) c.deref.ensures.value in
    λ κs h. (omega arith, (search rules, (search rules, (c.requires.ready, (named, (allowed, (c.requires.sized, c.requires.unrefused)))))))

pub walk_trip-returns-in_err-outcome-clause-runs : goal.walk_trip-returns-in_err-outcome-clause-runs
walk_trip-returns-in_err-outcome-clause-runs g t c =
    let p = c.args.program.now in
    let rec = exec (items_in p) in
    let told = g.S.Sink.told in
    let l = out-Loop c.args.repeated.now in
    let v = variable_of (shape_tree l.head.form.shape.value) in
    let range = members_tree l.range.items in
    let step = c.args.step in
    let t0 = c.args.turns.now in
    let m = map_of p c.args.cells.now in
    let old = told c.args.sink.now in
    let y = c.walk_list in
    let new = told y.new.sink in
    let runs = subst (λ xs. Halts (rec (members_tree xs) (members_tree xs) m t0).pieces c.in_err-outcome.field-0.0 old new) c.deref.ensures.value c.in_err-outcome.ensures.runs in
    let q = err_from_is_err_and c.from_residual.result c.from_residual.ensures.1 in
    λ first. rw (q.1, q.2) (range_halts rec l.head.line v first step 1 range _ t0 0 t0 m old old (so_far_none _ t0 old) new (omega arith) _ runs)

pub walk_trip-returns-then-not-is_normal-clause-runs : goal.walk_trip-returns-then-not-is_normal-clause-runs
walk_trip-returns-then-not-is_normal-clause-runs g t c =
    let p = c.args.program.now in
    let rec = exec (items_in p) in
    let told = g.S.Sink.told in
    let l = out-Loop c.args.repeated.now in
    let v = variable_of (shape_tree l.head.form.shape.value) in
    let range = members_tree l.range.items in
    let step = c.args.step in
    let t0 = c.args.turns.now in
    let m = map_of p c.args.cells.now in
    let old = told c.args.sink.now in
    let y = c.walk_list in
    let new = told y.new.sink in
    let n = map_of p y.new.cells in
    let left = y.new.turns in
    let o = c.in_ok-outcome.outcome in
    let end = is_end o (λ e. false≢true (sym c.if-not-is_normal.true ∙ c.is_normal.ensures.1 e)) in
    let runs = subst (λ xs. Runs (rec (members_tree xs) (members_tree xs) m t0) t0 n left (Ok o) old new) c.deref.ensures.value c.in_ok-outcome.ensures.runs in
    λ first. range_ends rec l.head.line v first step 1 range _ t0 0 t0 m old old (so_far_none _ t0 old) new (omega arith) n left o end runs

pub walk_trip-returns-in-Ok-clause-runs : goal.walk_trip-returns-in-Ok-clause-runs
walk_trip-returns-in-Ok-clause-runs g t c =
    let p = c.args.program.now in
    let rec = exec (items_in p) in
    let told = g.S.Sink.told in
    let l = out-Loop c.args.repeated.now in
    let v = variable_of (shape_tree l.head.form.shape.value) in
    let range = members_tree l.range.items in
    let step = c.args.step in
    let t0 = c.args.turns.now in
    let m = map_of p c.args.cells.now in
    let old = told c.args.sink.now in
    let y = c.walk_list in
    let new = told y.new.sink in
    let n = map_of p y.new.cells in
    let k = map_of p c.add_whole.new.cells in
    let left = y.new.turns in
    let o = c.in_ok-outcome.outcome in
    let normal : o ≡ outcomes.Normal = c.is_normal.ensures.0 c.if-not-is_normal.false in
    let runs = subst (λ z. Runs (rec range range m t0) t0 n left (Ok z) old new) normal (subst (λ xs. Runs (rec (members_tree xs) (members_tree xs) m t0) t0 n left (Ok o) old new) c.deref.ensures.value c.in_ok-outcome.ensures.runs) in
    let fits : FitsSigned w32 step = search rules in
    let adds = subst (λ by. Adds v by n k (Ok tt)) (to_z-of_z w32 step fits) (c.in-Ok.ensures.adds v (counted_cell p c.args.repeat.now (shape_tree l.head.form.shape.value) c.requires.repeats)) in
    λ first. subst (λ z. IsOver (several rec l.head.line v step range first 1 m t0) t0 k left z old new) (sym normal) (last_trip rec l.head.line v first step 1 range _ t0 1 left k old new (trip_goes rec l.head.line v first step 1 range _ t0 0 t0 m old old (so_far_none _ t0 old) new (omega arith) n left k runs adds) (omega arith))

pub walk_trip-returns-in-Err-clause-runs : goal.walk_trip-returns-in-Err-clause-runs
walk_trip-returns-in-Err-clause-runs g t c =
    let p = c.args.program.now in
    let rec = exec (items_in p) in
    let told = g.S.Sink.told in
    let l = out-Loop c.args.repeated.now in
    let v = variable_of (shape_tree l.head.form.shape.value) in
    let range = members_tree l.range.items in
    let step = c.args.step in
    let t0 = c.args.turns.now in
    let m = map_of p c.args.cells.now in
    let old = told c.args.sink.now in
    let y = c.walk_list in
    let new = told y.new.sink in
    let n = map_of p y.new.cells in
    let k = map_of p c.add_whole.new.cells in
    let left = y.new.turns in
    let o = c.in_ok-outcome.outcome in
    let normal : o ≡ outcomes.Normal = c.is_normal.ensures.0 c.if-not-is_normal.false in
    let runs = subst (λ z. Runs (rec range range m t0) t0 n left (Ok z) old new) normal (subst (λ xs. Runs (rec (members_tree xs) (members_tree xs) m t0) t0 n left (Ok o) old new) c.deref.ensures.value c.in_ok-outcome.ensures.runs) in
    let fits : FitsSigned w32 step = search rules in
    let adds = subst (λ by. Adds v by n k (Err c.in-Err.kind)) (to_z-of_z w32 step fits) (c.in-Err.ensures.adds v (counted_cell p c.args.repeat.now (shape_tree l.head.form.shape.value) c.requires.repeats)) in
    λ first. sum_faults rec l.head.line v first step 1 range _ t0 0 t0 m old old (so_far_none _ t0 old) new (omega arith) n left k c.in-Err.kind runs adds

pub walk_some-run_trips-advance-requires-clause-quiet : goal.walk_some-run_trips-advance-requires-clause-quiet
walk_some-run_trips-advance-requires-clause-quiet g t c =
    let w = c.requires.walked in
    quiet_loop c.args.program.now c.args.repeated.now c.args.repeat.now c.requires.repeats w.head w.named w.allowed.kept (w.quiet (sym c.has_output.ensures ∙ c.if-has_output.false)) w.leaves

pub walk_some-returns-then-has_output-clause-runs : goal.walk_some-returns-then-has_output-clause-runs
walk_some-returns-then-has_output-clause-runs g t c =
    let p = c.args.program.now in
    let told = g.S.Sink.told in
    let step = c.args.remaining.span.step in
    let fits : FitsSigned w32 step = search rules in
    let y = c.walk_trip in
    λ first. subst (λ s. AdvancesIn p c.args.cells.now y.new.cells (trips_in p c.args.repeated.now first s) c.args.turns.now y.new.turns y.result (told c.args.sink.now) (told y.new.sink)) (to_z-of_z w32 step fits) (y.ensures.runs first)

pub walk_some-returns-then-advance-gt0-clause-runs : goal.walk_some-returns-then-advance-gt0-clause-runs
walk_some-returns-then-advance-gt0-clause-runs g t c =
    let p = c.args.program.now in
    let told = g.S.Sink.told in
    let y = c.run_trips-advance in
    λ first. quiet_over _ c.args.turns.now (map_of p y.new.cells) y.new.turns y.result.outcome (told c.args.sink.now) (y.ensures.leaves first)

pub walk_some-returns-then-advance-gt0-clause-turns : goal.walk_some-returns-then-advance-gt0-clause-turns
walk_some-returns-then-advance-gt0-clause-turns g t c =
    let e = (c.run_trips-advance.ensures.leaves (pos 0)).turns in
    omega arith

pub walk_some-returns-clause-runs : goal.walk_some-returns-clause-runs
walk_some-returns-clause-runs g t c =
    let p = c.args.program.now in
    let told = g.S.Sink.told in
    let step = c.args.remaining.span.step in
    let fits : FitsSigned w32 step = search rules in
    let y = c.run_trips-advance in
    let z = c.walk_trip-2 in
    let none : y.result.done ≡ 0 = omega arith in
    let same = y.ensures.nothing none in
    λ first. subst (λ u. AdvancesIn p c.args.cells.now z.new.cells (trips_in p c.args.repeated.now first step) u z.new.turns z.result (told c.args.sink.now) (told z.new.sink)) same.1 (subst (λ cs. AdvancesIn p cs z.new.cells (trips_in p c.args.repeated.now first step) y.new.turns z.new.turns z.result (told c.args.sink.now) (told z.new.sink)) same.0 (subst (λ s. AdvancesIn p y.new.cells z.new.cells (trips_in p c.args.repeated.now first s) y.new.turns z.new.turns z.result (told c.args.sink.now) (told z.new.sink)) (to_z-of_z w32 step fits) (z.ensures.runs first)))

pub walk_trips-loop-done-init : goal.walk_trips-loop-done-init
walk_trips-loop-done-init g t c =
    let p = c.args.program.now in
    let told = g.S.Sink.told c.args.sink.now in
    let span = c.args.span in
    let count = trip_count span.first span.last span.step in
    let whole = trips_in p c.args.repeated.now span.first span.step count (map_of p c.args.cells.now) c.args.turns.now in
    let all : count - 0 ≡ count = omega arith in
    record { so_far = subst (λ n. SoFar whole (trips_in p c.args.repeated.now span.first span.step n (map_of p c.args.cells.now) c.args.turns.now) c.args.turns.now c.args.turns.now told told) (sym all) (so_far_none whole c.args.turns.now told); within = omega arith; sized = c.requires.sized; len = refl; unrefused = c.requires.unrefused; fewer = omega arith }

pub walk_trips-returns-in_err-advance-clause-runs : goal.walk_trips-returns-in_err-advance-clause-runs
walk_trips-returns-in_err-advance-clause-runs g t c =
    let p = c.args.program.now in
    let rec = exec (items_in p) in
    let told = g.S.Sink.told in
    let l = out-Loop c.args.repeated.now in
    let v = variable_of (shape_tree l.head.form.shape.value) in
    let range = members_tree l.range.items in
    let span = c.args.span in
    let done = c.loop-done.done in
    let inv = c.loop-done.invariant in
    let m = map_of p c.loop-done.cells in
    let y = c.walk_some in
    let total = trip_count span.first span.last span.step - done in
    let lt : 1 ≤ total = (let e = c.count_of-count.ensures in let test = c.loop-done-test.true in omega arith) in
    let q = err_from_is_err_and c.from_residual.result c.from_residual.ensures.1 in
    rw (q.1, q.2) (some_halt rec l.head.line v span.step span.first range _ c.args.turns.now c.loop-done.turns total m (told c.args.sink.now) (told c.loop-done.sink) inv.so_far (told y.new.sink) 1 lt _ (c.in_err-advance.ensures.runs span.first))

pub walk_trips-returns-then-not-is_normal-clause-runs : goal.walk_trips-returns-then-not-is_normal-clause-runs
walk_trips-returns-then-not-is_normal-clause-runs g t c =
    let p = c.args.program.now in
    let rec = exec (items_in p) in
    let told = g.S.Sink.told in
    let l = out-Loop c.args.repeated.now in
    let v = variable_of (shape_tree l.head.form.shape.value) in
    let range = members_tree l.range.items in
    let span = c.args.span in
    let done = c.loop-done.done in
    let inv = c.loop-done.invariant in
    let m = map_of p c.loop-done.cells in
    let y = c.walk_some in
    let a = c.in_ok-advance.advance in
    let total = trip_count span.first span.last span.step - done in
    let le : a.done ≤ total = (let e = c.count_of-count.ensures in let f = c.in_ok-advance.ensures.done in omega arith) in
    let end = is_end a.outcome (λ e. false≢true (sym c.if-not-is_normal.true ∙ c.is_normal.ensures.1 e)) in
    some_end rec l.head.line v span.step span.first range _ c.args.turns.now c.loop-done.turns total m (told c.args.sink.now) (told c.loop-done.sink) inv.so_far (told y.new.sink) a.done le (map_of p y.new.cells) y.new.turns a.outcome end (c.in_ok-advance.ensures.runs span.first)

pub walk_trips-loop-done-preserved : goal.walk_trips-loop-done-preserved
walk_trips-loop-done-preserved g t c =
    let p = c.args.program.now in
    let rec = exec (items_in p) in
    let told = g.S.Sink.told in
    let l = out-Loop c.args.repeated.now in
    let v = variable_of (shape_tree l.head.form.shape.value) in
    let range = members_tree l.range.items in
    let span = c.args.span in
    let count = trip_count span.first span.last span.step in
    let done = c.loop-done.done in
    let inv = c.loop-done.invariant in
    let m = map_of p c.loop-done.cells in
    let y = c.walk_some in
    let n = map_of p y.new.cells in
    let left = y.new.turns in
    let a = c.in_ok-advance.advance in
    let total = count - done in
    let f = c.in_ok-advance.ensures.done in
    let le : a.done ≤ total = (let e = c.count_of-count.ensures in omega arith) in
    let normal : a.outcome ≡ outcomes.Normal = c.is_normal.ensures.0 c.if-not-is_normal.false in
    let runs = subst (λ o. IsOver (several rec l.head.line v span.step range span.first a.done m c.loop-done.turns) c.loop-done.turns n left o (told c.loop-done.sink) (told y.new.sink)) normal (c.in_ok-advance.ensures.runs span.first) in
    let goes = some_go rec l.head.line v span.step span.first range _ c.args.turns.now c.loop-done.turns total m (told c.args.sink.now) (told c.loop-done.sink) inv.so_far (told y.new.sink) a.done le n left runs in
    let rest : total - a.done ≡ count - (done + a.done) = omega arith in
    let fewer = inv.fewer in
    let less = c.in_ok-advance.ensures.turns in
    record {
      so_far = subst (λ k. SoFar (trips_in p c.args.repeated.now span.first span.step count (map_of p c.args.cells.now) c.args.turns.now) (several rec l.head.line v span.step range span.first k n left) c.args.turns.now left (told c.args.sink.now) (told y.new.sink)) rest goes;
      within = (let e = c.count_of-count.ensures in omega arith);
      sized = c.in_ok-advance.ensures.len ∙ inv.sized;
      len = c.in_ok-advance.ensures.len ∙ inv.len;
      unrefused = runs.bytes.stays ∙ inv.unrefused;
      fewer = omega arith;
    }

pub walk_trips-returns-clause-runs : goal.walk_trips-returns-clause-runs
walk_trips-returns-clause-runs g t c =
    let p = c.args.program.now in
    let rec = exec (items_in p) in
    let told = g.S.Sink.told in
    let l = out-Loop c.args.repeated.now in
    let v = variable_of (shape_tree l.head.form.shape.value) in
    let range = members_tree l.range.items in
    let span = c.args.span in
    let total = trip_count span.first span.last span.step - c.loop-done.done in
    let none : total ≡ 0 = (let e = c.count_of-count.ensures in let ge = c.loop-done-test.false in omega arith) in
    none_left rec l.head.line v span.step span.first range _ c.args.turns.now c.loop-done.turns total (map_of p c.loop-done.cells) (told c.args.sink.now) (told c.loop-done.sink) c.loop-done.invariant.so_far none

pub walk_do-returns-then-not-take_turn-clause-steps : goal.walk_do-returns-then-not-take_turn-clause-steps
walk_do-returns-then-not-take_turn-clause-steps g t c =
    let p = c.args.program.now in
    let program = items_in p in
    let told = g.S.Sink.told in
    let l = out-Loop c.args.repeated.now in
    let s = shape_tree l.head.form.shape.value in
    let d = c.requires.repeats in
    let range = members_tree l.range.items in
    let m = map_of p c.args.cells.now in
    let t0 = c.args.turns.now in
    let u = c.take_turn.new.turns in
    subst (λ z. Steps (λ go. looped (scope_in p) (exec program) z l.head.line range m t0 go) t0 m u (Ok (fault_at F4 l.head.line)) (told c.args.sink.now) (told c.args.sink.now)) (sym (says p c.args.repeat.now s d)) (steps_quietly _ t0 m u (fault_at F4 l.head.line) (told c.args.sink.now) (do_unmoved (scope_in p) (exec program) d.label d.comma (variable_of s) d.limits l.head.line range m t0 u c.if-not-take_turn.ensures.0 c.if-not-take_turn.ensures.1))

pub walk_do-returns-in-Ok-clause-steps : goal.walk_do-returns-in-Ok-clause-steps
walk_do-returns-in-Ok-clause-steps g t c =
    let p = c.args.program.now in
    let program = items_in p in
    let told = g.S.Sink.told in
    let l = out-Loop c.args.repeated.now in
    let shape = shape_tree l.head.form.shape.value in
    let d = c.requires.repeats in
    let range = members_tree l.range.items in
    let m = map_of p c.args.cells.now in
    let t0 = c.args.turns.now in
    let u = c.take_turn.new.turns in
    let s = c.in-Ok.span in
    let y = c.walk_trips in
    let new = map_of p y.new.cells in
    let fits : FitsSigned w32 s.first = search rules in
    let cell = counted_cell p c.args.repeat.now shape d in
    let first : map_of p c.set_whole.new.cells ≡ put m (variable_of shape) [] s.first = c.set_whole.ensures.set (variable_of shape) cell ∙ ap (λ x. put x (variable_of shape) [] (to_z w32 (of_z w32 s.first))) (c.limits_whole.ensures.kept d.limits d.are) ∙ ap (λ x. put m (variable_of shape) [] x) (to_z-of_z w32 s.first fits) in
    subst (λ z. Steps (λ go. looped (scope_in p) (exec program) z l.head.line range m t0 go) t0 new y.new.turns y.result (told c.args.sink.now) (told y.new.sink)) (sym (says p c.args.repeat.now shape d)) (do_runs (scope_in p) (exec program) d.label d.comma (variable_of shape) d.limits l.head.line range m t0 u c.if-not-take_turn.ensures (span_values s) (map_of p c.set_whole.new.cells) new y.new.turns y.result (told c.args.sink.now) (told y.new.sink) (c.in-Ok.ensures.span d.limits d.are).0 first y.ensures.runs)

pub walk_do-returns-in-Err-clause-steps : goal.walk_do-returns-in-Err-clause-steps
walk_do-returns-in-Err-clause-steps g t c =
    let p = c.args.program.now in
    let program = items_in p in
    let told = g.S.Sink.told in
    let l = out-Loop c.args.repeated.now in
    let shape = shape_tree l.head.form.shape.value in
    let d = c.requires.repeats in
    let range = members_tree l.range.items in
    let m = map_of p c.args.cells.now in
    let n = map_of p c.limits_whole.new.cells in
    let t0 = c.args.turns.now in
    let u = c.take_turn.new.turns in
    let f = fault_at c.in-Err.kind l.head.line in
    subst (λ z. Steps (λ go. looped (scope_in p) (exec program) z l.head.line range m t0 go) t0 n u (Ok f) (told c.args.sink.now) (told c.args.sink.now)) (sym (says p c.args.repeat.now shape d)) (steps_quietly _ t0 n u f (told c.args.sink.now) (subst (λ z. Moves (λ go. looped (scope_in p) (exec program) (doing d.label d.comma (variable_of shape) d.limits) l.head.line range m t0 go) t0 z u f) (sym (c.in-Err.ensures.kept d.limits d.are)) (do_faults (scope_in p) (exec program) d.label d.comma (variable_of shape) d.limits l.head.line range m t0 u c.if-not-take_turn.ensures c.in-Err.kind (c.in-Err.ensures.span d.limits d.are))))

pub walk_loop-returns-in-None-clause-steps : goal.walk_loop-returns-in-None-clause-steps
walk_loop-returns-in-None-clause-steps g t c =
    let p = c.args.program.now in
    let program = items_in p in
    let told = g.S.Sink.told in
    let l = out-Loop c.args.repeated.now in
    let range = members_tree l.range.items in
    let m = map_of p c.args.cells.now in
    steps_same (λ go. go onward m c.args.turns.now) (λ go. looped (scope_in p) (exec program) (shape_tree l.head.form.shape.value) l.head.line range m c.args.turns.now go) c.args.turns.now m c.args.turns.now (Ok outcomes.Normal) (told c.args.sink.now) (told c.args.sink.now) (unless_do (shape_tree l.head.form.shape.value) (scope_in p) (exec program) l.head.line range m c.args.turns.now c.in-None.ensures) (steps_quietly _ c.args.turns.now m c.args.turns.now outcomes.Normal (told c.args.sink.now) (passes_over m c.args.turns.now))

pub walk_member-walk_loop-requires : goal.walk_member-walk_loop-requires
walk_member-walk_loop-requires g t c =
    let p = c.args.program.now in
    let head = head_known (IsStatement p) c.args.member.now c.in-Loop.repeated c.in-Loop.is c.requires.named in
    let range = range_known (IsStatement p) c.args.member.now c.in-Loop.repeated c.in-Loop.is c.requires.named in
    let allowed = allowed_range p c.args.member.now c.in-Loop.repeated c.in-Loop.is c.requires.allowed in
    let quiet = quiet_unless_loud p c.args.member.now c.in-Loop.repeated c.in-Loop.is c.requires.allowed in
    let leaves = leaves_its_variable p c.args.member.now c.in-Loop.repeated c.in-Loop.is c.requires.allowed in
    let walked : IsLoopOf p c.in-Loop.repeated = record { head = head; named = range; allowed = allowed; quiet = quiet; leaves = leaves } in
    let given = c.decreases in
    let same = ap the_size c.in-Loop.is in
    let size = sized-Loop c.in-Loop.repeated in
    λ κs h. (omega arith, (search rules, (search rules, (c.requires.ready, (walked, (c.requires.sized, c.requires.unrefused))))))
