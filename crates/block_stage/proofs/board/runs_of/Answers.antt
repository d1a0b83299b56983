use Rattle.std.proofs.Common.{◌≡◌, ◌<◌, length, slice_get, sym, ap, ◌∙◌, arith}
use Rattle.block_stage.specs.Cuts.{Places}
use Rattle.block_stage.proofs.Boards.{one_run_more, place_there, numbered_run, both, length_runs}
use Rattle.block_stage.proofs.Staging.{one_more}
use Rattle.block_stage.proofs.board.runs_of.Goals as goal

pub loop-at-preserved : goal.loop-at-preserved
loop-at-preserved g c =
    let i = c.loop-at.at in
    let inv = c.loop-at.invariant in
    let places = c.args.places.items in
    let runs = c.loop-at.runs.items in
    let r = c.taken-run.result in
    let d = g.J.JobKey.job in
    let lt : i < length places = omega arith in
    let p = place_there places i lt in
    let at = inv.rest i (omega arith) ∙ p.1 in
    let is = c.taken-run.ensures.run p.0 at in
    let many : length runs ≡ i = length_runs places i runs (omega arith) inv.runs in
    let mine = both r d i c.taken-run.ensures.faithful (λ s e. numbered_run places c.requires.numbered i p.0 s p.1 (sym is ∙ e)) in
    record {
      runs = c.put.ensures.items ∙ one_run_more places i p.0 runs r p.1 is inv.runs;
      faithful = λ k s here. one_more d runs r i many inv.faithful mine k s (sym (ap (λ (xs : Places). slice_get xs k) c.put.ensures.items) ∙ here);
      rest = λ k le. c.taken-run.ensures.others k (omega arith) ∙ inv.rest k (omega arith);
      len = c.taken-run.ensures.len ∙ inv.len;
      room = omega (arith, inv.room, c.put.ensures.capacity);
    }
