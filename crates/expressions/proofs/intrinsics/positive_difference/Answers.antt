use Rattle.std.specs.Int.{w32}
use Rattle.std.proofs.lemmas.Int.{to_z-of_z}
use Rattle.expressions.proofs.Exact.{no_difference}
use Rattle.expressions.proofs.intrinsics.positive_difference.Goals as goal

pub returns-else-b-a : goal.returns-else-b-a
returns-else-b-a c =
    no_difference c.args.a c.args.b (rw (to_z-of_z w32 c.args.a c.ranges.a, to_z-of_z w32 c.args.b c.ranges.b) at c.if-b-a.false)
