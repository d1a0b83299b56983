use Rattle.format_edit.proofs.GoneBack.{reverted_more}
use Rattle.format_edit.proofs.editing.reverted.Goals as goal

pub loop-part-preserved : goal.loop-part-preserved
loop-part-preserved c =
    reverted_more c.in-Some.part.now c.loop-part.found.now c.from_group-found.result.now c.loop-part.rest.now c.in-Some.behind.now _ c.in-Some.ensures.cases.0 c.from_group-found.ensures c.loop-part.invariant
