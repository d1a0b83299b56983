use Rattle.std.proofs.Common.{[], ◌∷◌, ◌++◌, map, take, sym, ap, subst, ◌∙◌}
use Rattle.meaning.specs.declared.refusal.Rule.TheVariants.{K10}
use Rattle.meaning.specs.Initial.{has_bad_data}
use Rattle.symbols.specs.SymbolsAt.{symbols_at}
use Rattle.rule_passes.specs.Listed.{tree_at}
use Rattle.rule_passes.proofs.Adding.{pairs_none, pairs_more}
use Rattle.rule_passes.proofs.Passes.{trees_more}
use Rattle.data_rules.specs.DataSets.{IsFilledBy, stage_by}
use Rattle.data_rules.specs.Lacking.{AreKnown, names_kept}
use Rattle.data_rules.proofs.DataStarting.{filled_none}
use Rattle.data_rules.proofs.Sizeless.{sizeless_none}
use Rattle.data_rules.proofs.further.add_bad_data.Goals as goal

pub pass_one_more-requires : goal.pass_one_more-requires
pass_one_more-requires c =
    λ n. c.requires n ∙ ap (λ q. (symbols_at q).names.arrays n) (sym c.loop-item.invariant.symbols)

pub loop-item-init : goal.loop-item-init
loop-item-init c =
    let r = symbols_at c.args.symbols.now in
    record {
      symbols = c.table_of-table.ensures.symbols;
      known = (
        c.table_of-table.ensures.behind,
        ap names_kept c.new-sizeless.ensures.items ∙ sizeless_none (symbols_at c.table_of-table.result.symbols.now),
      );
      filled = subst (IsFilledBy r []) (sym c.new-filling.ensures) (filled_none r);
      added = pairs_none (has_bad_data r) K10 c.args.pairs.now.items;
    }

pub loop-item-preserved : goal.loop-item-preserved
loop-item-preserved c =
    let before = c.loop-item.invariant in
    let items = c.args.items.now in
    let i = c.loop-item.item-index in
    let m = c.item-item.result in
    let r = symbols_at c.args.symbols.now in
    let front = map tree_at (take i items) in
    let more = sym (trees_more items i m c.loop-item-test.true c.item-item.is) in
    let made = c.in_ok-one_more.one_more in
    let one =
    c.in_ok-one_more.ensures front before.known.0 (ap names_kept c.deref.ensures.value ∙ before.known.1)
    (subst (λ q. IsFilledBy (symbols_at q) front (stage_by c.loop-item.filling)) (sym before.symbols) before.filled)
    in
    record {
      symbols = ap (λ q. q.now) c.in_ok-pass_names.ensures.symbols ∙ before.symbols;
      known =
          subst (AreKnown c.pass_names.new.table (names_kept c.pass_names.new.sizeless.items)) more
          (c.in_ok-pass_names.ensures.known front before.known);
      filled =
          subst (λ xs. IsFilledBy r xs (stage_by made.filling)) more
          (subst (λ q. IsFilledBy (symbols_at q) (front ++ tree_at m ∷ []) (stage_by made.filling)) before.symbols one.filled);
      added =
          pairs_more (has_bad_data r) K10 items i m made.is_bad c.args.pairs.now.items c.loop-item.pairs.items c.add_broken.new.pairs.items c.loop-item-test.true c.item-item.is before.added
          (one.is_bad ∙ ap (λ q. has_bad_data (symbols_at q) front (tree_at m)) before.symbols) c.in_ok-add_broken.ensures;
    }
