use Rattle.std.proofs.Common.{◌≡◌, [], take, sym, ap, subst, ◌∙◌}
use Rattle.symbols.specs.Listed.{tree_at, trees_at}
use Rattle.symbols.specs.SymbolsAt.{symbols_at}
use Rattle.symbols.proofs.Passes.{map_more}
use Rattle.expressions.specs.Places.{capped}
use Rattle.number_rules.specs.Sized.{AreBehind}
use Rattle.number_rules.proofs.Sizing.{elements_none}
use Rattle.size_culprits.proofs.sizes.passed_of.Goals as goal

pub loop-item-init : goal.loop-item-init
loop-item-init c = record {
  same = c.table_of.ensures.symbols;
  behind = record {
    table = c.table_of.ensures.behind;
    elements = ap capped (sym (elements_none (symbols_at c.table_of.result.symbols.now)));
  };
}

pub loop-item-preserved : goal.loop-item-preserved
loop-item-preserved c =
    let ms = c.args.before.now in
    let i = c.loop-item.item-index in
    record {
      same = ap (λ r. r.now) c.in_ok-pass.ensures.same ∙ c.loop-item.invariant.same;
      behind = subst (AreBehind c.pass.new.passed.table c.pass.new.passed.elements) (sym (map_more tree_at ms i c.item-item.result c.loop-item-test.true c.item-item.is)) (c.in_ok-pass.ensures.behind (trees_at (take i ms)) c.loop-item.invariant.behind);
    }
