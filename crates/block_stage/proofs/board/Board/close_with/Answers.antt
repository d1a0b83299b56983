use Rattle.std.proofs.Common.{length, sym, ap, ◌∙◌, subst}
use Rattle.std.proofs.lemmas.List.{length-map}
use Rattle.block_stage.specs.Jobs.{JobData}
use Rattle.block_stage.specs.Stages.{AreRunsOf, run_in}
use Rattle.block_stage.proofs.Boards.{leads_on}
use Rattle.block_stage.proofs.board.Board.close_with.Goals as goal

pub new-requires-clause-posted : goal.new-requires-clause-posted
new-requires-clause-posted g c =
    let places = c.close-places.result.places.items in
    let key = c.self.invariant.0 in
    record {
      job = c.parts-parts.ensures.job;
      whole = ap length c.runs_of-runs.ensures.runs ∙ length-map places run_in ∙ ap length c.close-places.ensures.places ∙ c.close-places.ensures.blocks ∙ sym (ap (λ (d : JobData). d.blocks) key);
      faithful = subst (λ d. AreRunsOf d c.runs_of-runs.result.items) (sym key) c.runs_of-runs.ensures.faithful;
      lead = leads_on _ _ _ _ c.close-places.ensures.scheduled c.close-places.ensures.events c.close-places.ensures.places c.runs_of-runs.ensures.runs;
    }
