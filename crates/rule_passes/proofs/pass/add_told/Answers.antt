use Rattle.std.proofs.Common.{ap, sym, refl, ◌∙◌, subst, map, take}
use Rattle.rule_passes.specs.Listed.{tree_at}
use Rattle.rule_passes.proofs.Adding.{pairs_none, pairs_more}
use Rattle.rule_passes.proofs.Passes.{trees_more}
use Rattle.rule_passes.proofs.pass.add_told.Goals as goal

pub loop-item-init : goal.loop-item-init
loop-item-init g c = (pairs_none (g.B.Behind.breaks c.args.behind.now) c.args.rule c.args.pairs.now.items, c.requires, refl)

pub loop-item-preserved : goal.loop-item-preserved
loop-item-preserved g c =
    let m = c.item-item.result in
    let items = c.args.items.now in
    let i = c.loop-item.item-index in
    let behind = c.loop-item.invariant in (
      pairs_more (g.B.Behind.breaks c.args.behind.now) c.args.rule items i m c.in_ok-is_broken.is_broken c.args.pairs.now.items c.loop-item.pairs.items c.add_broken.new.pairs.items c.loop-item-test.true c.item-item.is behind.0 (c.in_ok-is_broken.ensures _ behind.1 ∙ ap (λ f. f (map tree_at (take i items)) (tree_at m)) behind.2) c.in_ok-add_broken.ensures,
      subst (g.B.Behind.knows c.pass.new.self) (sym (trees_more items i m c.loop-item-test.true c.item-item.is)) (c.in_ok-pass.ensures.knows _ behind.1),
      c.in_ok-pass.ensures.same ∙ behind.2,
    )
