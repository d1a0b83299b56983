use Rattle.source_columns.specs.Views.{line_of}
use Rattle.source_columns.proofs.AllBroken.{alone_next}
use Rattle.source_columns.proofs.all_broken.add_alone.Goals as goal

pub loop-line-preserved : goal.loop-line-preserved
loop-line-preserved c = record {
  told = alone_next (line_of c.in-Some.line) _ _ c.in-Some.ensures.first _ _ _ c.in-Some.ensures.continues c.in_ok-push.ensures.items c.loop-line.invariant.told;
  counted = c.in-Some.ensures.counted;
}
