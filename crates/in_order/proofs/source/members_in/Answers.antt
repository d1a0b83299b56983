use Rattle.std.proofs.Common.{map}
use Rattle.std.proofs.lemmas.List.{map_push}
use Rattle.meaning.specs.Trees.{item_tree}
use Rattle.in_order.proofs.Listed.{listed_none, listed_more, broken_more}
use Rattle.in_order.proofs.source.members_in.Goals as goal
use Rattle.in_order.proofs.source.members_in.Goals.{in-Ok+in-Ok-push, in-Err-Rule}

pub loop-statement-init : goal.loop-statement-init
loop-statement-init c = rw c.new-members.ensures.items listed_none

pub loop-statement-preserved : goal.loop-statement-preserved
loop-statement-preserved c =
    let s = c.statement-item.result in
    let i = c.loop-statement.statement-index in
    let before = map item_tree c.loop-statement.members.items in
    let inv = c.loop-statement.invariant in
    elim c.match-member_in.branch [
      | in-Ok+in-Ok-push w ↦
          rw (w.broken-is, w.members-is, w.in-Ok-push.ensures.items, map_push item_tree c.loop-statement.members.items w.in-Ok.member) (listed_more c.args.found.now i s c.loop-statement-test.true c.statement-item.is c.loop-statement.broken before (item_tree w.in-Ok.member) inv w.in-Ok.ensures)
      | in-Err-Rule w ↦
          let told = rw w.in-Err-Rule.field-0-is at w.in-Err-Rule.ensures in
          rw (w.broken-is, w.members-is, w.lesser-broken.ensures) (broken_more c.args.found.now i s c.loop-statement-test.true c.statement-item.is c.loop-statement.broken before _ inv told)
    ]
