use Rattle.std.proofs.Common.{rules, ◌≡◌, ◌+◌, ◌<◌, length, Err, arith}
use Rattle.parser.proofs.Sets.{missed, all_read, next_one, no_turn}
use Rattle.parser.proofs.initial_values.read_data_sets.Goals as goal

pub returns-then-is_empty : goal.returns-then-is_empty
returns-then-is_empty c =
    let ended : length c.loop.rest.now ≡ 0 = search rules in
    all_read _ (length c.args.text.now + 1) c.loop.counter c.loop.rest.now _ c.loop.invariant c.loop-test.true ended

pub returns-in_err-set : goal.returns-in_err-set
returns-in_err-set c =
    let k : c.from_residual.result ≡ Err c.in_err-set.field-0.0 = search rules in
    let some : 0 < length c.loop.rest.now = search rules in
    rw k (missed c.in_err-set.field-0.0 _ (length c.args.text.now + 1) c.loop.counter c.loop.rest.now _ c.loop.invariant c.loop-test.true some c.in_err-set.ensures)

pub loop-preserved : goal.loop-preserved
loop-preserved c =
    let some : 0 < length c.loop.rest.now = search rules in
    next_one c.loop.sets.items c.push.new.self.items c.in_ok-set.set (length c.args.text.now + 1) c.loop.counter c.loop.rest.now c.in_ok-set.after.now _ c.in_ok-push.ensures.items c.loop.invariant c.loop-test.true some
    c.in_ok-set.ensures

pub returns : goal.returns
returns c = no_turn _ (length c.args.text.now + 1) c.loop.counter c.loop.rest.now _ c.loop.invariant (omega (arith, c.loop-test.false))
