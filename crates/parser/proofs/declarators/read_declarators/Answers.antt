use Rattle.std.proofs.Common.{rules, ◌≡◌, ◌+◌, length, Err, arith}
use Rattle.meaning.specs.Syntax.{declarator_tree}
use Rattle.meaning.specs.Reading.{declarator_at}
use Rattle.parser.proofs.Separated.{missed, last_one, next_one, no_turn}
use Rattle.parser.proofs.declarators.read_declarators.Goals as goal

pub returns-in_err-declarator : goal.returns-in_err-declarator
returns-in_err-declarator c =
    let k : c.from_residual.result ≡ Err c.in_err-declarator.field-0.0 = search rules in
    rw k (missed declarator_at c.in_err-declarator.field-0.0 _ (length c.args.text.now + 1) c.loop.counter c.loop.rest.now _ c.loop.invariant c.loop-test.true c.in_err-declarator.ensures)

pub returns-in-None : goal.returns-in-None
returns-in-None c =
    last_one declarator_at declarator_tree c.loop.list.items c.push.new.self.items c.in_ok-declarator.declarator (length c.args.text.now + 1) c.loop.counter c.loop.rest.now c.in_ok-declarator.after.now _
    c.in_ok-push.ensures.items c.loop.invariant c.loop-test.true c.in_ok-declarator.ensures c.in-None.ensures

pub loop-preserved : goal.loop-preserved
loop-preserved c =
    next_one declarator_at declarator_tree c.loop.list.items c.push.new.self.items c.in_ok-declarator.declarator (length c.args.text.now + 1) c.loop.counter c.loop.rest.now c.in_ok-declarator.after.now c.in-Some.more.now _
    c.in_ok-push.ensures.items c.loop.invariant c.loop-test.true c.in_ok-declarator.ensures c.in-Some.ensures

pub returns : goal.returns
returns c = no_turn declarator_at _ (length c.args.text.now + 1) c.loop.counter c.loop.rest.now _ c.loop.invariant (omega (arith, c.loop-test.false))
