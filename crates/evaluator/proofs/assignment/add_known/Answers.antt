use Rattle.std.proofs.Common.{rules, ◌+ℤ◌}
use Rattle.std.specs.Prelude.{FitsSigned}
use Rattle.std.specs.Int.{w32}
use Rattle.expressions.proofs.Exact.{in_range}
use Rattle.evaluator.proofs.Assigned.{adds_known, later_written, sum_kept}
use Rattle.evaluator.proofs.assignment.add_known.Goals as goal

pub returns-clause-does : goal.returns-clause-does
returns-clause-does g c = λ n is.
    let u = g.S.Store.world c.args.store.now in
    let a = c.args.addition in
    let x = c.args.number in
    let fb : FitsSigned w32 a.by = search rules in
    adds_known c.args.program.now n a.variable is.is u (g.S.Store.world c.write.new.self) x a.by (x +ℤ a.by) _ c.requires.known (in_range (x +ℤ a.by) c.requires.integer) c.in_ok-write.ensures.ok (sum_kept x a.by c.ranges.number fb c.requires.integer)

pub returns-clause-sum : goal.returns-clause-sum
returns-clause-sum g c =
    let a = c.args.addition in
    let fb : FitsSigned w32 a.by = search rules in
    (sum_kept c.args.number a.by c.ranges.number fb c.requires.integer, c.in_ok-write.ensures.ok)

pub returns-clause-later : goal.returns-clause-later
returns-clause-later g c =
    later_written c.args.addition.variable _ (g.S.Store.world c.args.store.now) (g.S.Store.world c.write.new.self) c.in_ok-write.ensures.ok
