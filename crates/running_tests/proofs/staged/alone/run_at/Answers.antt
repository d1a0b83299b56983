use Rattle.std.proofs.Common.{sym, ◌∙◌}
use Rattle.program.specs.Programs.{IsStatement}
use Rattle.evaluator.proofs.Looped.{head_known, known_at, range_known}
use Rattle.program_runs.proofs.Allowing.{allowed_at, allowed_range, leaves_its_variable, quiet_unless_loud}
use Rattle.running_tests.proofs.staged.alone.run_at.Goals as goal

pub run_loop-run-requires-clause-named : goal.run_loop-run-requires-clause-named
run_loop-run-requires-clause-named g c = λ κs h.
    let p = c.args.program.now in
    let x = c.index-members-place.result in
    range_known (IsStatement p) x c.in-Loop.repeated c.in-Loop.is (known_at (IsStatement p) c.args.members.now c.args.place x c.requires.inside c.index-members-place.is c.requires.named)

pub run_loop-run-requires-clause-kept : goal.run_loop-run-requires-clause-kept
run_loop-run-requires-clause-kept g c = λ κs h.
    let p = c.args.program.now in
    let x = c.index-members-place.result in
    (allowed_range p x c.in-Loop.repeated c.in-Loop.is (allowed_at p c.args.members.now c.args.place x c.requires.inside c.index-members-place.is c.requires.allowed)).kept

pub run_loop-run-requires-clause-quiet : goal.run_loop-run-requires-clause-quiet
run_loop-run-requires-clause-quiet g c = λ κs h.
    let p = c.args.program.now in
    let x = c.index-members-place.result in
    quiet_unless_loud p x c.in-Loop.repeated c.in-Loop.is (allowed_at p c.args.members.now c.args.place x c.requires.inside c.index-members-place.is c.requires.allowed) (sym c.has_output.ensures ∙ c.if-has_output.false)

pub run_loop-run-requires-clause-leaves : goal.run_loop-run-requires-clause-leaves
run_loop-run-requires-clause-leaves g c = λ κs h.
    let p = c.args.program.now in
    let x = c.index-members-place.result in
    leaves_its_variable p x c.in-Loop.repeated c.in-Loop.is (allowed_at p c.args.members.now c.args.place x c.requires.inside c.index-members-place.is c.requires.allowed)

pub run_loop-run-requires-clause-head : goal.run_loop-run-requires-clause-head
run_loop-run-requires-clause-head g c = λ κs h.
    let p = c.args.program.now in
    let x = c.index-members-place.result in
    head_known (IsStatement p) x c.in-Loop.repeated c.in-Loop.is (known_at (IsStatement p) c.args.members.now c.args.place x c.requires.inside c.index-members-place.is c.requires.named)
