use Rattle.std.proofs.Common.{rules, ◌≡◌, ◌+◌, length, Err, arith}
use Rattle.meaning.specs.Syntax.{bounds_tree}
use Rattle.meaning.specs.Reading.{bounds_at}
use Rattle.parser.proofs.Separated.{missed, last_one, next_one, no_turn}
use Rattle.parser.proofs.declarators.read_bounds_list.Goals as goal

pub returns-in_err-bounds : goal.returns-in_err-bounds
returns-in_err-bounds c =
    let k : c.from_residual.result ≡ Err c.in_err-bounds.field-0.0 = search rules in
    rw k (missed bounds_at c.in_err-bounds.field-0.0 _ (length c.args.text.now + 1) c.loop.counter c.loop.rest.now _ c.loop.invariant c.loop-test.true c.in_err-bounds.ensures)

pub returns-in-None : goal.returns-in-None
returns-in-None c =
    last_one bounds_at bounds_tree c.loop.list.items c.push.new.self.items c.in_ok-bounds.bounds (length c.args.text.now + 1) c.loop.counter c.loop.rest.now c.in_ok-bounds.after.now _
    c.in_ok-push.ensures.items c.loop.invariant c.loop-test.true c.in_ok-bounds.ensures c.in-None.ensures

pub loop-preserved : goal.loop-preserved
loop-preserved c =
    next_one bounds_at bounds_tree c.loop.list.items c.push.new.self.items c.in_ok-bounds.bounds (length c.args.text.now + 1) c.loop.counter c.loop.rest.now c.in_ok-bounds.after.now c.in-Some.more.now _
    c.in_ok-push.ensures.items c.loop.invariant c.loop-test.true c.in_ok-bounds.ensures c.in-Some.ensures

pub returns : goal.returns
returns c = no_turn bounds_at _ (length c.args.text.now + 1) c.loop.counter c.loop.rest.now _ c.loop.invariant (omega (arith, c.loop-test.false))
