use Rattle.std.proofs.Common.{sym, ap, ◌∙◌}
use Rattle.std.specs.FinMap as map
use Rattle.meaning.specs.Stores.{Cells, known, overlay}
use Rattle.array_store.specs.Whole.{world_of}
use Rattle.block_stage.proofs.Taking.{one_put_more}
use Rattle.block_stage.proofs.taken.apply_each.Goals as goal

pub loop-one-preserved : goal.loop-one-preserved
loop-one-preserved c =
    let w = c.one-item.result in
    record {
      map = c.apply_to.ensures.values ∙ ap (λ (m : Cells). overlay m (map.get w.written)) c.loop-one.invariant.map ∙ sym (one_put_more (known (world_of c.args.target.now)) c.args.changes.now c.loop-one.one-index w c.loop-one-test.true c.one-item.is);
      len = c.apply_to.ensures.len ∙ c.loop-one.invariant.len;
    }
