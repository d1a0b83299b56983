use Rattle.std.proofs.Common.{arith, length, ◌*◌, ◌+◌}
use Rattle.marks.proofs.Words.{meet_short, one_ends}
use Rattle.marks.proofs.marks.meet_group.Goals as goal

pub returns-else-from-to : goal.returns-else-from-to
returns-else-from-to c =
    let a = c.args.a.now in
    let b = c.args.b.now in
    let from = 8 * c.args.group in
    let long = c.if-from-to.false in
    let s = meet_short a b from (from + 8) c.min-to.result (one_ends (length a) (length b) c.min-to.result c.min-to.result c.min-to.ensures (omega arith)) (omega arith) in
    (λ t. s.0 (c.meet_some.ensures.0 t), λ m. c.meet_some.ensures.1 (s.1 m))
