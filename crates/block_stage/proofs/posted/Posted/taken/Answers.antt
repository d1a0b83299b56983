use Rattle.std.proofs.Common.{◌≡◌, ◌<◌, ◌≤◌, ◌^◌, length, arith, rules, sym, ◌∙◌, ap, take, subst}
use Rattle.block_stage.specs.Jobs.{JobParts, data_of}
use Rattle.block_stage.specs.Faithful.{base_of, ran}
use Rattle.block_stage.specs.Stages.{PostedParts, ArePosted}
use Rattle.block_stage.specs.Cuts.{turns_to, outcome_to}
use Rattle.block_stage.specs.Taken.{AreSized, TakenParts, overlay_each, wrote_in}
use Rattle.block_stage.proofs.Commits.{committed, turns_fit, cut_within}
use Rattle.block_stage.proofs.Taking.{as_many, each_is_all, first_wrote, have_runs, runs_sized}
use Rattle.block_stage.proofs.posted.Posted.taken.Goals as goal

pub run_before-run-requires-clause-fits : goal.run_before-run-requires-clause-fits
run_before-run-requires-clause-fits c =
    let s = c.args.self in
    let known_of : ArePosted s = subst ArePosted c.self.view_is c.self.invariant.0 in
    let d = data_of s.job in
    let same = c.deref.ensures.value ∙ ap (λ (t : PostedParts). t.places) c.self.view_is in
    let le = turns_fit d known_of.job.long known_of.job.last known_of.job.unset s.places known_of.faithful c.args.cut c.requires.some c.requires.cut.least in
    let turns : c.parts-parts.result.turns_left ≡ s.job.turns_left = sym (ap (λ (j : JobParts). j.turns_left) c.parts-parts.ensures.parts) ∙ ap (λ (t : PostedParts). t.job.turns_left) c.self.view_is in
    let small : c.parts-parts.result.turns_left < 2 ^ 64 = search rules in
    subst (λ ps. turns_to ps c.args.cut < 2 ^ 64) (sym same) (omega (arith, le, turns, small))

pub new-requires-clause-sized : goal.new-requires-clause-sized
new-requires-clause-sized c =
    let s = c.args.self in
    let known_of : ArePosted s = subst ArePosted c.self.view_is c.self.invariant.0 in
    let wrote = c.changes_of-changes.ensures ∙ ap (λ (t : PostedParts). wrote_in t.places) c.self.view_is in
    let base = c.cells.ensures ∙ sym (ap (λ (j : JobParts). j.base) c.parts-parts.ensures.parts) ∙ ap (λ (t : PostedParts). t.job.base) c.self.view_is in
    let sized = runs_sized (data_of s.job) s.places known_of.faithful in
    subst (λ ws. AreSized (length c.cells.result.now) ws) (sym wrote) (subst (λ xs. AreSized (length xs) (wrote_in s.places)) (sym base) sized)

pub new-requires-clause-within : goal.new-requires-clause-within
new-requires-clause-within c =
    let s = c.args.self in
    let wrote = c.changes_of-changes.ensures ∙ ap (λ (t : PostedParts). wrote_in t.places) c.self.view_is in
    subst (λ (ws : _). c.args.cut ≤ length ws) (sym wrote) (as_many c.args.cut s.places (have_runs s.job.turns_left s.places c.args.cut c.requires.cut.least))

pub returns-clause-map : goal.returns-clause-map
returns-clause-map c = λ m.
    let s = c.args.self in
    let wrote = c.changes_of-changes.ensures ∙ ap (λ (t : PostedParts). wrote_in t.places) c.self.view_is in
    let runs = have_runs s.job.turns_left s.places c.args.cut c.requires.cut.least in
    let written = ap (λ (t : TakenParts). t.written) c.new.ensures ∙ ap (take c.args.cut) wrote ∙ first_wrote c.args.cut s.places runs in
    ap (overlay_each m) written ∙ each_is_all m (take c.args.cut s.places)

pub returns-clause-fold : goal.returns-clause-fold
returns-clause-fold c =
    let s = c.args.self in
    let known_of : ArePosted s = subst ArePosted c.self.view_is c.self.invariant.0 in
    let d = data_of s.job in
    let same = c.deref.ensures.value ∙ ap (λ (t : PostedParts). t.places) c.self.view_is in
    let wrote = c.changes_of-changes.ensures ∙ ap (λ (t : PostedParts). wrote_in t.places) c.self.view_is in
    let runs = have_runs s.job.turns_left s.places c.args.cut c.requires.cut.least in
    let run = committed d known_of.job.long known_of.job.last known_of.job.unset s.places known_of.faithful c.args.cut c.requires.some (let e = cut_within s.job.turns_left s.places c.args.cut c.requires.cut in let w = known_of.whole in omega arith) c.requires.cut.least in
    let outcome = ap (λ (t : TakenParts). t.outcome) c.new.ensures ∙ c.run_before-run.ensures.outcome ∙ ap (λ ps. outcome_to ps c.args.cut) same in
    let turns = ap (λ (t : TakenParts). t.used) c.new.ensures ∙ c.run_before-run.ensures.turns ∙ ap (λ ps. turns_to ps c.args.cut) same in
    let written = ap (λ (t : TakenParts). t.written) c.new.ensures ∙ ap (take c.args.cut) wrote ∙ first_wrote c.args.cut s.places runs in
    let values = ap (overlay_each (base_of d)) written ∙ each_is_all (base_of d) (take c.args.cut s.places) in
    run ∙ sym (λ i. ran d (outcome i) (values i) (turns i))

pub returns-clause-within : goal.returns-clause-within
returns-clause-within c =
    let s = c.args.self in
    let known_of : ArePosted s = subst ArePosted c.self.view_is c.self.invariant.0 in
    let d = data_of s.job in
    let same = c.deref.ensures.value ∙ ap (λ (t : PostedParts). t.places) c.self.view_is in
    let le = turns_fit d known_of.job.long known_of.job.last known_of.job.unset s.places known_of.faithful c.args.cut c.requires.some c.requires.cut.least in
    let turns = ap (λ (t : TakenParts). t.used) c.new.ensures ∙ c.run_before-run.ensures.turns ∙ ap (λ ps. turns_to ps c.args.cut) same in
    omega (arith, le, turns)
