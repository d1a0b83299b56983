use Rattle.std.proofs.Common.{rules, ◌≡◌, ◌-◌, Err, arith}
use Rattle.meaning.specs.Syntax.{list_items_tree, list_item_tree}
use Rattle.meaning.specs.Reading.{loop_item_at}
use Rattle.parser.specs.Behind.{loop_behind}
use Rattle.parser.proofs.Listed.{begun, missed, no_comma, last_one, next_one, no_turn}
use Rattle.parser.proofs.list.+items.Goals as goal

pub read_loop_item-returns-in-Err : goal.read_loop_item-returns-in-Err
unfolding loop_item_at loop_behind
read_loop_item-returns-in-Err t c = let h = c.in-Err.ensures (list_items_tree c.in_ok-items.items) in search rules

pub read_loop_item-returns-in_ok-loop_with-in-Ok : goal.read_loop_item-returns-in_ok-loop_with-in-Ok
unfolding loop_item_at loop_behind
read_loop_item-returns-in_ok-loop_with-in-Ok t c = let h = c.in-Ok.ensures (list_items_tree c.in_ok-items.items) in search rules

pub read_items-loop-turn-init : goal.read_items-loop-turn-init
read_items-loop-turn-init t c = begun c.args.least c.new-row.result.items c.args.most (c.args.most - 0) c.args.text.now c.new-row.ensures.items (omega arith)

pub read_items-returns-in_err-item : goal.read_items-returns-in_err-item
read_items-returns-in_err-item t c =
    let k : c.from_residual.result ≡ Err c.in_err-item.field-0.0 = search rules in
    rw k (missed c.in_err-item.field-0.0 c.args.least _ c.args.most c.loop-turn.turn c.loop-turn.rest.now _ c.loop-turn.invariant c.loop-turn-test.true c.in_err-item.ensures)

pub read_items-returns-then-ends_list : goal.read_items-returns-then-ends_list
read_items-returns-then-ends_list t c =
    rw c.in_ok-items_of.ensures (last_one c.args.least c.loop-turn.row.items c.push.new.self.items c.in_ok-item.item c.args.most c.loop-turn.turn c.loop-turn.rest.now c.in_ok-item.after.now _
    c.in_ok-push.ensures.items c.loop-turn.invariant c.loop-turn-test.true c.in_ok-item.ensures c.if-ends_list.ensures)

pub read_items-returns-in-None : goal.read_items-returns-in-None
read_items-returns-in-None t c =
    no_comma c.args.least _ (list_item_tree c.in_ok-item.item) c.args.most c.loop-turn.turn c.loop-turn.rest.now c.in_ok-item.after.now _
    c.loop-turn.invariant c.loop-turn-test.true c.in_ok-item.ensures c.if-ends_list.ensures c.in-None.ensures

pub read_items-loop-turn-preserved : goal.read_items-loop-turn-preserved
read_items-loop-turn-preserved t c =
    next_one c.args.least c.loop-turn.row.items c.push.new.self.items c.in_ok-item.item c.args.most c.loop-turn.turn c.loop-turn.rest.now c.in_ok-item.after.now c.in-Some.more.now _
    c.in_ok-push.ensures.items c.loop-turn.invariant c.loop-turn-test.true c.in_ok-item.ensures c.if-ends_list.ensures c.in-Some.ensures

pub read_items-returns : goal.read_items-returns
read_items-returns t c = no_turn c.args.least _ (c.args.most - c.loop-turn.turn) c.loop-turn.rest.now _ c.loop-turn.invariant (omega (arith, c.loop-turn-test.false))
