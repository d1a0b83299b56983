use Rattle.std.proofs.Common.{◌≡◌, ℕ, List, sym, ap, ◌∙◌, Some, None}
use Rattle.std.specs.Global.{Vec}
use Rattle.list_culprits.specs.Listed.{reach_at, unit_at}
use Rattle.list_culprits.specs.Told.{tell, told_at}
use Rattle.list_culprits.specs.Transfers.{missed_at}
use Rattle.list_culprits.proofs.Stepping.{told_first}
use Rattle.list_culprits.proofs.transfers.missed_one.Goals as goal

pub returns-in-Some : goal.returns-in-Some
returns-in-Some c =
    let f = missed_at (unit_at c.args.search.now) (reach_at c.args.search.now) in
    sym (told_first f (λ (x : Vec ℕ). x.items) c.args.labels.now c.loop-label.label-index c.label-item.result (Some (told_at c.in-Some.culprit)) c.loop-label-test.true c.label-item.is (ap tell (sym c.in-Some.is) ∙ c.in_ok-culprit.ensures ∙ ap f c.deref.ensures.value))
    ∙ c.loop-label.invariant

pub loop-label-preserved : goal.loop-label-preserved
loop-label-preserved c =
    let f = missed_at (unit_at c.args.search.now) (reach_at c.args.search.now) in
    sym (told_first f (λ (x : Vec ℕ). x.items) c.args.labels.now c.loop-label.label-index c.label-item.result None c.loop-label-test.true c.label-item.is (ap tell (sym c.in-None.is) ∙ c.in_ok-culprit.ensures ∙ ap f c.deref.ensures.value))
    ∙ c.loop-label.invariant
