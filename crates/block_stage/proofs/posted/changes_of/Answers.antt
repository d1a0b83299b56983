use Rattle.std.proofs.Common.{[], ◌∷◌, ◌++◌, arith, sym, ◌∙◌}
use Rattle.block_stage.specs.Cuts.{Places}
use Rattle.block_stage.specs.Taken.{wrote_in}
use Rattle.block_stage.proofs.Taking.{wrote_more}
use Rattle.block_stage.proofs.posted.changes_of.Goals as goal

pub loop-at-preserved : goal.loop-at-preserved
loop-at-preserved c =
    let i = c.loop-at.at in
    let inv = c.loop-at.invariant in
    let places : Places = c.args.places.items in
    let p = c.take_place-place.result in
    let at = sym (inv.rest i (omega arith)) ∙ c.take_place-place.ensures.run in
    record {
      wrote = c.put.ensures.items ∙ (λ k. inv.wrote k ++ wrote_in (p ∷ [])) ∙ sym (wrote_more places i p at);
      rest = λ k le. c.take_place-place.ensures.others k (omega arith) ∙ inv.rest k (omega arith);
      len = c.take_place-place.ensures.len ∙ inv.len;
      few = omega (arith, inv.few, c.put.ensures.len);
      room = omega (arith, inv.room, c.put.ensures.capacity);
    }
