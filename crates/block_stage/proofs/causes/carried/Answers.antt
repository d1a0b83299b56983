use Rattle.std.proofs.Common.{Some, ap, arith, ◌∙◌}
use Rattle.block_stage.proofs.Cutting.{place_is}
use Rattle.block_stage.proofs.causes.carried.Goals as goal

pub returns-in-Some-cell_of : goal.returns-in-Some-cell_of
returns-in-Some-cell_of c = record {
  run = c.in-Some.other;
  there = place_is c.args.earlier.now c.loop-at.at c.index-earlier-at.result (omega arith) c.index-earlier-at.is ∙ ap Some c.in-Some.is;
  first = c.loop-at.invariant;
  carries = c.in-Some-cell_of.ensures;
}
