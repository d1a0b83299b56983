use Rattle.std.proofs.Common.{◌<◌, ◌^◌, length, arith, rules, sym, subst, ap}
use Rattle.block_stage.specs.Cuts.{turns_to}
use Rattle.block_stage.proofs.Commits.{cut_within}
use Rattle.block_stage.proofs.Telling.{turns_within}
use Rattle.block_stage.proofs.told.told_of.Goals as goal

pub turns_before-requires-clause-within : goal.turns_before-requires-clause-within
turns_before-requires-clause-within c =
    let posted = c.args.posted.now in
    let within = cut_within posted.job.turns_left posted.places c.args.cut c.requires in
    omega (arith, within, ap length c.places-places.ensures)

pub turns_before-requires-clause-fits : goal.turns_before-requires-clause-fits
turns_before-requires-clause-fits c =
    let posted = c.args.posted.now in
    let few = turns_within posted c.args.cut c.parts-parts.ensures.posted c.requires in
    let turns = c.parts-parts.ensures.turns in
    let small : c.parts-parts.result.turns_left < 2 ^ 64 = search rules in
    subst (λ ps. turns_to ps c.args.cut < 2 ^ 64) (sym c.places-places.ensures) (omega (arith, few, turns, small))

pub returns : goal.returns
returns c = search rules
