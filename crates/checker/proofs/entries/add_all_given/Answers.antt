use Rattle.meaning.specs.Syntax.{shape_tree}
use Rattle.std.proofs.Common.{subst}
use Rattle.checker.specs.Entries.{Adds, described, names_given}
use Rattle.checker.proofs.Entering.{adds_both, adds_none, adds_same, items_more}
use Rattle.checker.proofs.entries.add_all_given.Goals as goal

pub loop-item-init : goal.loop-item-init
loop-item-init c = adds_none c.args.entries.now (described c.args.facts.now c.args.symbols.now)

pub loop-item-preserved : goal.loop-item-preserved
loop-item-preserved c =
    let f = described c.args.facts.now c.args.symbols.now in
    adds_same c.args.entries.now c.add_given.new.entries f _ _ (items_more c.args.items.now c.loop-item.item-index c.item-item.result c.loop-item-test.true c.item-item.is)
    (adds_both c.args.entries.now c.loop-item.entries c.add_given.new.entries f _ _ c.loop-item.invariant (subst (λ s. Adds c.loop-item.entries c.add_given.new.entries f (names_given (shape_tree s))) c.deref.ensures c.in_ok-add_given.ensures))
