use Rattle.std.proofs.Common.{◌||◌, map, take, refl, sym, ap, ap₂, subst, ◌∙◌}
use Rattle.meaning.specs.declared.refusal.Rule.TheVariants.{K11}
use Rattle.rule_passes.specs.Listed.{tree_at}
use Rattle.rule_passes.proofs.Adding.{pairs_none, pairs_more}
use Rattle.rule_passes.proofs.Passes.{trees_more}
use Rattle.statement_rules.specs.FormatLabels.{KnowsOutput, breaks_either}
use Rattle.statement_rules.specs.FormatsFound.{HoldsFormats}
use Rattle.statement_rules.proofs.formats.add_and_read.Goals as goal

pub loop-item-init : goal.loop-item-init
loop-item-init c = record {
  so_far = pairs_none (breaks_either c.args.output.now) K11 c.args.pairs.now.items;
  known = c.requires;
  same = refl;
  held = c.new-formats.ensures;
}

pub loop-item-preserved : goal.loop-item-preserved
loop-item-preserved c =
    let items = c.args.items.now in
    let i = c.loop-item.item-index in
    let m = c.item-item.result in
    let front = map tree_at (take i items) in
    let lt = c.loop-item-test.true in
    let is = c.item-item.is in
    let before = c.loop-item.invariant in
    let more = sym (trees_more items i m lt is) in
    record {
      so_far = pairs_more (breaks_either c.args.output.now) K11 items i m c.is_bad-broken.result c.args.pairs.now.items c.loop-item.pairs.items c.add_broken.new.pairs.items lt is before.so_far (c.is_bad-broken.ensures ∙ ap₂ ◌||◌ (c.in_ok-misplaced.ensures front before.known ∙ ap (λ f. f front (tree_at m)) before.same) (c.in_ok-unread.ensures.told front before.held)) c.in_ok-add_broken.ensures;
      known = subst (KnowsOutput c.pass.new.self) more (c.in_ok-pass.ensures.knows front before.known);
      same = c.in_ok-pass.ensures.same ∙ before.same;
      held = subst (λ all. HoldsFormats all c.read_item.new.formats) more (c.in_ok-unread.ensures.kept front before.held);
    }
