use Rattle.std.proofs.Common.{rules, Some, arith}
use Rattle.storage.specs.Checked.{names_in}
use Rattle.expressions.specs.Calls.{IsCallable}
use Rattle.fault_details.proofs.Rooms.{call_falls}
use Rattle.fault_details.proofs.evaluation.+evaluation.Goals as goal

pub call_in-value_in-requires : goal.call_in-value_in-requires
call_in-value_in-requires t c =
    let found : IsCallable (names_in c.args.scene.now.program.now) c.args.scene.now.callable c.args.name.now (Some c.in-Some.function) = search rules in
    let falls = call_falls (names_in c.args.scene.now.program.now) c.args.name.now c.in-Some.function c.args.scene.now.callable found in
    (omega (arith, falls), tt)
