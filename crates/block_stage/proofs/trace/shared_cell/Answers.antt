use Rattle.std.proofs.Common.{sym, ◌∙◌}
use Rattle.block_stage.proofs.Sharing.{both_told, least_told, none_more}
use Rattle.block_stage.proofs.trace.shared_cell.Goals as goal

pub returns-then-both-ne0 : goal.returns-then-both-ne0
returns-then-both-ne0 c =
    let mine = c.words-mine.result.now in
    let others = c.words-others.result.now in
    let bit = c.lowest_bit.result in
    let told = both_told mine others c.loop-at.at bit c.lowest_bit.ensures.small c.lowest_bit.ensures.has in
    record {
      one = c.words-mine.ensures.told _ ∙ told.0;
      other = c.words-others.ensures.told _ ∙ told.1;
      least = λ cell lt p q. least_told mine others c.loop-at.at bit c.lowest_bit.ensures.small c.loop-at.invariant c.lowest_bit.ensures.lowest cell lt (sym (c.words-mine.ensures.told _) ∙ p) (sym (c.words-others.ensures.told _) ∙ q);
    }

pub loop-at-preserved : goal.loop-at-preserved
loop-at-preserved c = none_more c.words-mine.result.now c.words-others.result.now c.loop-at.at c.loop-at.invariant c.if-both-ne0.false
