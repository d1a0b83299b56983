use Rattle.std.proofs.Common.{arith}
use Rattle.meaning.specs.Syntax.{expr_tree}
use Rattle.storage.specs.Checked.{count_in, names_in, numbers_in}
use Rattle.expressions.proofs.Items.{value_adds, value_fails}
use Rattle.values.proofs.listed.add_value.Goals as goal

pub returns-in_ok-push-in-Ok-clause-reads : goal.returns-in_ok-push-in-Ok-clause-reads
returns-in_ok-push-in-Ok-clause-reads g c =
    let p = c.args.program.now in
    let e = expr_tree c.args.item.now in
    value_adds (names_in p) (numbers_in p) (count_in p) e c.requires.single.is (g.S.Store.world c.args.store.now) (g.S.Store.world c.value.new.store) c.args.found.now.items c.push.new.self.items c.in-Ok.x c.args.room.now _ (omega arith) c.in_ok-push-in-Ok.ensures.items (c.in-Ok.ensures.reads e c.requires.single.code)

pub returns-in-Err-clause-reads : goal.returns-in-Err-clause-reads
returns-in-Err-clause-reads g c =
    let p = c.args.program.now in
    let e = expr_tree c.args.item.now in
    value_fails (names_in p) (numbers_in p) (count_in p) e c.requires.single.is (g.S.Store.world c.args.store.now) (g.S.Store.world c.value.new.store) c.args.room.now c.in-Err.kind (omega arith) (c.in-Err.ensures.reads e c.requires.single.code)
