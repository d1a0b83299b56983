use Rattle.std.proofs.Common.{rules, ◌≡◌, ◌+◌, length, Err, arith}
use Rattle.meaning.specs.Syntax.{letters_tree}
use Rattle.meaning.specs.Reading.{letters_at}
use Rattle.parser.proofs.Separated.{missed, last_one, next_one, no_turn}
use Rattle.parser.proofs.specification.read_letters_list.Goals as goal

pub returns-in_err-one : goal.returns-in_err-one
returns-in_err-one c =
    let k : c.from_residual.result ≡ Err c.in_err-one.field-0.0 = search rules in
    rw k (missed letters_at c.in_err-one.field-0.0 _ (length c.args.text.now + 1) c.loop.counter c.loop.rest.now _ c.loop.invariant c.loop-test.true c.in_err-one.ensures)

pub returns-in-None : goal.returns-in-None
returns-in-None c =
    last_one letters_at letters_tree c.loop.list.items c.push.new.self.items c.in_ok-one.one (length c.args.text.now + 1) c.loop.counter c.loop.rest.now c.in_ok-one.after.now _
    c.in_ok-push.ensures.items c.loop.invariant c.loop-test.true c.in_ok-one.ensures c.in-None.ensures

pub loop-preserved : goal.loop-preserved
loop-preserved c =
    next_one letters_at letters_tree c.loop.list.items c.push.new.self.items c.in_ok-one.one (length c.args.text.now + 1) c.loop.counter c.loop.rest.now c.in_ok-one.after.now c.in-Some.more.now _
    c.in_ok-push.ensures.items c.loop.invariant c.loop-test.true c.in_ok-one.ensures c.in-Some.ensures

pub returns : goal.returns
returns c = no_turn letters_at _ (length c.args.text.now + 1) c.loop.counter c.loop.rest.now _ c.loop.invariant (omega (arith, c.loop-test.false))
