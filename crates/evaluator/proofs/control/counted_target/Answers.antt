use Rattle.std.proofs.Common.{to_z, of_z}
use Rattle.std.specs.Int.{w32}
use Rattle.std.proofs.lemmas.Int.{to_z-of_z}
use Rattle.evaluator.proofs.Picked.{counted_some, counted_none}
use Rattle.evaluator.proofs.control.counted_target.Goals as goal

pub returns-in-Some : goal.returns-in-Some
returns-in-Some c =
    let found = c.in-Some.ensures.lookup in
    λ digits are. counted_some c.args.labels.now digits are (to_z w32 (of_z w32 c.args.value)) c.args.value (to_z-of_z w32 c.args.value c.ranges.value) c.in-Ok.ensures.0 c.in-Ok.count c.in-Some.label.now c.in-Ok.ensures.1 c.in-Ok.count-test.1 found.3.0 found.1

pub returns-in-None : goal.returns-in-None
returns-in-None c =
    λ digits are. counted_none c.args.labels.now digits are (to_z w32 (of_z w32 c.args.value)) c.args.value (to_z-of_z w32 c.args.value c.ranges.value) c.in-Ok.ensures.0 c.in-Ok.count c.in-Ok.ensures.1 c.in-Ok.count-test.1 c.in-None.ensures.lookup.3
