use Rattle.std.proofs.Common.{refl}
use Rattle.c_library.specs.Runs.{accepted, refused}
use Rattle.c_library.proofs.exports.f77run_check.Goals as goal

pub returns-in-Ok : goal.returns-in-Ok
returns-in-Ok c = accepted _ c.in-Ok.ensures refl

pub returns-in-Err-Rule : goal.returns-in-Err-Rule
returns-in-Err-Rule c =
    let tells = rw c.in-Err-Rule.field-0-is at c.in-Err-Rule.ensures in
    refused _ tells c.refused_at.ensures
