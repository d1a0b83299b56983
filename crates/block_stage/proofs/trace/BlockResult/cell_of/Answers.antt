use Rattle.std.proofs.Common.{ap, ◌∙◌, is_some}
use Rattle.std.specs.FinMap as map
use Rattle.block_stage.specs.Faithful.{RunData}
use Rattle.block_stage.proofs.Sharing.{shared_is}
use Rattle.block_stage.proofs.trace.BlockResult.cell_of.Goals as goal

pub returns : goal.returns
returns c =
    shared_is
    c.args.other.now
    c.args.self.now
    c.exposed.result.now
    c.written.result.now
    c.shared_cell.result
    (c.exposed.ensures ∙ ap (λ (s : RunData). s.seen.exposed) c.self.view_is)
    (λ k. c.written.ensures k ∙ ap (λ (r : RunData). is_some (map.get r.seen.written k)) c.other.view_is)
    c.shared_cell.ensures
