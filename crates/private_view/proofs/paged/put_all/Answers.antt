use Rattle.std.proofs.Common.{refl, ◌∙◌}
use Rattle.std.specs.Prelude.{slice_index_or}
use Rattle.private_view.specs.Views.{value_at}
use Rattle.private_view.proofs.Marked.{takes_more}
use Rattle.private_view.proofs.paged.put_all.Goals as goal

pub loop-at-preserved : goal.loop-at-preserved
loop-at-preserved c =
    let slots = c.args.slots.now in
    let numbers = c.args.numbers.now in
    let at = c.loop-at.at in
    let f = value_at slots c.args.values.now in
    record {
      takes = takes_more c.args.words.now slots numbers c.requires.copied at (slice_index_or numbers at 0) refl (c.requires.placed at c.loop-at-test.true) c.args.target.now c.loop-at.target c.put_marked.new.target c.copied_page-part.result.now f c.copied_page-part.ensures.is c.put_marked.ensures.takes c.loop-at.invariant.takes;
      len = c.put_marked.ensures.len ∙ c.loop-at.invariant.len;
    }
