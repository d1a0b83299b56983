use Rattle.std.proofs.Common.{◌≡◌, ◌≤◌, ◌+◌, suc, sym, ap, ◌∙◌, add-one, arith, take}
use Rattle.meaning.specs.Characters.{number_of}
use Rattle.statement_rules.specs.Counted.{one_more}
use Rattle.list_culprits.proofs.Stepping.{count_more}
use Rattle.list_culprits.proofs.transfers.count_at.Goals as goal
use Rattle.list_culprits.proofs.transfers.count_at.Goals.{then-is_at, else-is_at}

pub loop-item-preserved : goal.loop-item-preserved
loop-item-preserved c =
    let s = number_of c.args.label.now in
    let more = count_more s c.args.items.now c.loop-item.item-index c.item-item.result c.is_at.result c.loop-item.count c.loop-item-test.true c.item-item.is c.is_at.ensures c.loop-item.invariant.counted in
    elim c.if-is_at.branch [
      | then-is_at w ↦ record {
        counted = w.count-is ∙ add-one c.loop-item.count ∙ ap (λ b. one_more b c.loop-item.count) (sym w.if-is_at.true) ∙ more;
        few = omega (arith, w.count-is);
      }
      | else-is_at w ↦ record {
        counted = w.count-is ∙ ap (λ b. one_more b c.loop-item.count) (sym w.if-is_at.false) ∙ more;
        few = omega (arith, w.count-is);
      }
    ]
