use Rattle.std.proofs.Common.{refl, rules}
use Rattle.fault_details.proofs.Taken.{clash_is}
use Rattle.fault_details.proofs.output.meet.Goals as goal

pub returns-then-differs : goal.returns-then-differs
returns-then-differs c = (refl, clash_is c.args.value c.args.field (search rules), c.requires)
