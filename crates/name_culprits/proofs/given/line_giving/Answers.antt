use Rattle.std.proofs.Common.{◌≡◌, ◌+◌, ◌++◌, refl, sym, ap, subst, ◌∙◌, arith, take, drop, Some}
use Rattle.symbols.specs.Listed.{tree_at, trees_at}
use Rattle.symbols.specs.SymbolsAt.{symbols_at}
use Rattle.symbols.specs.Stages.{IsBehind}
use Rattle.symbols.proofs.Passes.{map_more}
use Rattle.name_culprits.proofs.Lines.{line_here, line_later, line_nowhere}
use Rattle.name_culprits.proofs.given.line_giving.Goals as goal

pub loop-item-init : goal.loop-item-init
loop-item-init c = record { stage = c.new-stage.ensures c.args.symbols.now; so_far = refl }

pub returns-then-is_there : goal.returns-then-is_there
returns-then-is_there c =
    let i = c.loop-item.item-index in
    let ms = c.args.before.now in
    line_here (symbols_at c.args.symbols.now) c.args.giving c.args.name.now ms i c.item-item.result c.loop-item-test.true c.item-item.is (sym c.if-is_there.true ∙ c.in_ok-is_there.ensures (trees_at (take i ms)) c.loop-item.invariant.stage)
    ∙ c.loop-item.invariant.so_far

pub loop-item-preserved : goal.loop-item-preserved
loop-item-preserved c =
    let i = c.loop-item.item-index in
    let ms = c.args.before.now in
    record {
      stage = subst (IsBehind c.args.symbols.now c.pass.new.self) (sym (map_more tree_at ms i c.item-item.result c.loop-item-test.true c.item-item.is)) (c.pass.ensures (trees_at (take i ms)) c.loop-item.invariant.stage);
      so_far =
          line_later (symbols_at c.args.symbols.now) c.args.giving c.args.name.now ms i c.item-item.result c.loop-item-test.true c.item-item.is (sym c.if-is_there.false ∙ c.in_ok-is_there.ensures (trees_at (take i ms)) c.loop-item.invariant.stage)
          ∙ c.loop-item.invariant.so_far;
    }

pub returns : goal.returns
returns c =
    line_nowhere (symbols_at c.args.symbols.now) c.args.giving c.args.name.now c.args.before.now c.loop-item.item-index (omega arith)
    ∙ c.loop-item.invariant.so_far
