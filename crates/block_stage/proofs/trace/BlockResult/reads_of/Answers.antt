use Rattle.std.proofs.Common.{◌↔◌, IsTrue, subst, ◌∙◌}
use Rattle.marks.specs.Cells.{Share}
use Rattle.block_stage.specs.Cuts.{reads_of}
use Rattle.block_stage.proofs.Meeting.{meets_is}
use Rattle.block_stage.proofs.trace.BlockResult.reads_of.Goals as goal

pub returns : goal.returns
returns c =
    let mine = c.self.inside.view in
    let others = c.other.inside.view in
    let is : IsTrue c.meets.result ↔ Share mine.exposed c.written.result.now = subst (λ e. IsTrue c.meets.result ↔ Share e c.written.result.now) c.exposed.ensures c.meets.ensures in
    meets_is mine.exposed c.written.result.now others.written c.meets.result c.written.ensures is
    ∙ (λ i. reads_of (c.other.view_is i) (c.self.view_is i))
