use Rattle.std.proofs.Common.{sym, subst, map, take}
use Rattle.symbols.specs.SymbolsAt.{symbols_at}
use Rattle.symbols.specs.Stages.{IsBehind}
use Rattle.rule_passes.specs.Listed.{tree_at}
use Rattle.statement_rules.proofs.Labelled.{closed_first, closed_more}
use Rattle.rule_passes.proofs.Passes.{trees_more}
use Rattle.statement_rules.proofs.transfers.closed_labels.Goals as goal

pub loop-item-init : goal.loop-item-init
loop-item-init c = record {
  closed = λ s. closed_first (symbols_at c.args.symbols.now) c.new-closed.result s c.new-closed.ensures.empty;
  stage = c.new-stage.ensures c.args.symbols.now;
}

pub loop-item-preserved : goal.loop-item-preserved
loop-item-preserved c =
    let ms = c.args.items.now in
    let i = c.loop-item.item-index in
    let m = c.item-item.result in
    let front = map tree_at (take i ms) in
    let before = c.loop-item.invariant in
    record {
      closed = λ s. closed_more (symbols_at c.args.symbols.now) s ms i m _ _ c.is_closed-closes.result c.loop-item-test.true c.item-item.is (before.closed s) (c.is_closed-closes.ensures front before.stage) (c.in_ok-close_label.ensures s);
      stage = subst (IsBehind c.args.symbols.now c.pass.new.self) (sym (trees_more ms i m c.loop-item-test.true c.item-item.is)) (c.pass.ensures front before.stage);
    }
