use Rattle.std.proofs.Common.{◌≡◌, take, sym, ap, subst, ◌∙◌}
use Rattle.symbols.specs.Listed.{tree_at, trees_at}
use Rattle.symbols.proofs.Passes.{map_more}
use Rattle.declarations.specs.Tables.{IsBehind}
use Rattle.number_culprits.proofs.constants.table_behind.Goals as goal

pub loop-item-init : goal.loop-item-init
loop-item-init c = record { same = c.table_of-table.ensures.symbols; behind = c.table_of-table.ensures.behind }

pub loop-item-preserved : goal.loop-item-preserved
loop-item-preserved c =
    let ms = c.args.before.now in
    let i = c.loop-item.item-index in
    record {
      same = ap (λ r. r.now) c.in_ok-pass_constants.ensures.symbols ∙ c.loop-item.invariant.same;
      behind = subst (IsBehind c.pass_constants.new.table) (sym (map_more tree_at ms i c.item-item.result c.loop-item-test.true c.item-item.is)) (c.in_ok-pass_constants.ensures.behind (trees_at (take i ms)) c.loop-item.invariant.behind);
    }
