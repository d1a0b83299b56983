use Rattle.std.proofs.Common.{◌-◌, Ok, Err, refl, ap, ◌∙◌, arith}
use Rattle.std.specs.Prelude.{FitsSigned}
use Rattle.std.specs.Int.{w32}
use Rattle.std.proofs.lemmas.Int.{to_z-of_z}
use Rattle.meaning.specs.declared.ending.FaultKind.TheVariants.{F8}
use Rattle.meaning.specs.Syntax.{expr_tree}
use Rattle.expressions.proofs.Items.{array_item}
use Rattle.storage.specs.Checked.{count_in, names_in, numbers_in}
use Rattle.values.specs.Stacked.{value_at}
use Rattle.values.proofs.Elements.{one_more}
use Rattle.values.proofs.listed.add_array.Goals as goal

pub returns-then-array-room-clause-reads : goal.returns-then-array-room-clause-reads
returns-then-array-room-clause-reads g c =
    let p = c.args.program.now in
    let h = c.requires.array in
    let w = g.S.Store.world c.args.store.now in
    let found = c.args.found.now.items in
    let given = c.args.room.now in
    let lt = c.if-array-room.true in
    let many = h.many in
    array_item (names_in p) (numbers_in p) (count_in p) (expr_tree c.args.item.now) h.cells h.is w w found found given given (Err F8) (refl, omega arith, refl)

pub loop-at-preserved : goal.loop-at-preserved
loop-at-preserved g c =
    let p = c.args.program.now in
    let world = g.S.Store.world in
    let inv = c.loop-at.invariant in
    let x = c.element_number-x in
    let fits : FitsSigned w32 x.result = record { sfits = x.type_inv } in
    record {
      array = inv.array;
      so_far = one_more p (expr_tree c.args.item.now) c.args.array inv.array (world c.args.store.now) (world c.loop-at.store) (world x.new.store) c.args.found.now.items c.loop-at.found.items c.push.new.self.items c.loop-at.at x.result c.value_by.result inv.so_far c.in_ok-push.ensures.items x.ensures.reads fits (c.value_by.ensures ∙ ap (value_at c.args.array.is_logical) (to_z-of_z w32 x.result fits));
    }

pub returns-clause-reads : goal.returns-clause-reads
returns-clause-reads g c =
    let p = c.args.program.now in
    let world = g.S.Store.world in
    let h = c.loop-at.invariant.array in
    let part = c.loop-at.invariant.so_far in
    let many = h.many in
    let at = part.many in
    let last = c.loop-at-test.false in
    let end = c.loop-at.auto.at-end in
    let room = c.if-array-room.false in
    array_item (names_in p) (numbers_in p) (count_in p) (expr_tree c.args.item.now) h.cells h.is (world c.args.store.now) (world c.loop-at.store) c.args.found.now.items c.loop-at.found.items c.args.room.now (c.args.room.now - c.args.array.size) (Ok tt) (record {
      values = part.values;
      behind = part.behind;
      many = omega (arith, many, at, last, end);
      fits = omega (arith, many, room);
      reads = part.reads;
    })
