use Rattle.std.proofs.Common.{◌<◌, length, take, None, is_none, inr, arith, ap, sym, subst, ◌∙◌}
use Rattle.std.specs.List.{list_any}
use Rattle.block_stage.specs.Causes.{IsCarried}
use Rattle.block_stage.specs.Cuts.{at_place, reads_place}
use Rattle.block_stage.proofs.Stopping.{behind_is, seen_at, later_at, ended_at, some_at, unbroken_at, broken_at, turns_at_cut}
use Rattle.block_stage.proofs.causes.cause_of.Goals as goal

pub returns-in_default : goal.returns-in_default
returns-in_default c = behind_is c.args.posted.now.job.turns_left c.args.posted.now.places c.places-places.result.now c.args.cut c.cause_behind.result c.places-places.ensures c.requires (omega (arith, c.in_default.ensures.lookup)) c.cause_behind.ensures

pub returns-in_default-place : goal.returns-in_default-place
returns-in_default-place c =
    let within : c.args.cut < length c.places-places.result.now = omega (arith, c.in-Some.ensures.lookup) in
    let here = seen_at c.args.posted.now.places c.places-places.result.now c.args.cut c.in-Some.place.now None c.places-places.ensures within c.in-Some.ensures.lookup.1 c.in_default-place.is in
    (omega (arith, ap length c.places-places.ensures, within), ap (λ o. is_none (at_place o)) here)

pub returns-then-ended_early : goal.returns-then-ended_early
returns-then-ended_early c =
    let within : c.args.cut < length c.places-places.result.now = omega (arith, c.in-Some.ensures.lookup) in
    let later = later_at c.args.posted.now.job.turns_left c.args.posted.now.places c.places-places.result.now c.args.cut c.in-Some.place.now c.in-Some-place.trace c.places-places.ensures within c.in-Some.ensures.lookup.1 c.in-Some-place.is c.requires.here in
    let ended = ended_at c.args.posted.now.places c.places-places.result.now c.args.cut c.index-places-cut.result c.places-places.ensures within c.index-places-cut.is in
    (inr (some_at c.args.posted.now.places c.args.cut c.in-Some-place.trace later.0), ended ∙ sym c.ended_early.ensures ∙ c.if-ended_early.true)

pub returns-in-Some-carried : goal.returns-in-Some-carried
returns-in-Some-carried c =
    let within : c.args.cut < length c.places-places.result.now = omega (arith, c.in-Some.ensures.lookup) in
    let later = later_at c.args.posted.now.job.turns_left c.args.posted.now.places c.places-places.result.now c.args.cut c.in-Some.place.now c.in-Some-place.trace c.places-places.ensures within c.in-Some.ensures.lookup.1 c.in-Some-place.is c.requires.here in
    let ended = ended_at c.args.posted.now.places c.places-places.result.now c.args.cut c.index-places-cut.result c.places-places.ensures within c.index-places-cut.is in
    let carried = subst (λ ps. IsCarried (take c.args.cut ps) c.in-Some-place.trace c.in-Some-carried.dependence) c.places-places.ensures c.in-Some-carried.ensures in
    (ended ∙ sym c.ended_early.ensures ∙ c.if-ended_early.false, broken_at c.args.posted.now.places c.args.cut c.in-Some-place.trace c.in-Some-carried.dependence later.0 carried)

pub returns-in-None : goal.returns-in-None
returns-in-None c =
    let within : c.args.cut < length c.places-places.result.now = omega (arith, c.in-Some.ensures.lookup) in
    let later = later_at c.args.posted.now.job.turns_left c.args.posted.now.places c.places-places.result.now c.args.cut c.in-Some.place.now c.in-Some-place.trace c.places-places.ensures within c.in-Some.ensures.lookup.1 c.in-Some-place.is c.requires.here in
    let ended = ended_at c.args.posted.now.places c.places-places.result.now c.args.cut c.index-places-cut.result c.places-places.ensures within c.index-places-cut.is in
    let none = ap (λ ps. list_any (reads_place c.in-Some-place.trace) (take c.args.cut ps)) (sym c.places-places.ensures) ∙ c.in-None.ensures in
    let normal = ended ∙ sym c.ended_early.ensures ∙ c.if-ended_early.false in
    (normal, unbroken_at c.args.posted.now.places c.args.cut c.in-Some-place.trace later.0 none, turns_at_cut c.args.posted.now.job.turns_left c.args.posted.now.places c.args.cut c.in-Some-place.trace later.0 later.1.1 none normal)
