use Rattle.std.proofs.Common.{arith}
use Rattle.evaluator.proofs.Sliced.{begins_so, leads_somewhere, none_before_first, none_before_next, slice_anywhere, slice_there}
use Rattle.evaluator.proofs.slices.first_of.Goals as goal

pub loop-at-init : goal.loop-at-init
loop-at-init c = none_before_first c.args.members.now

pub overflow_sub-result : goal.overflow_sub-result
overflow_sub-result c =
    let e = begins_so c.args.members.now c.loop-at.at c.index-members-at.result c.loop-at-test.true c.index-members-at.is c.loop-at.invariant c.args.program.now c.requires.slice c.in-Some.label c.in-Some.behind c.in-Some.ensures.is c.in-Some.ensures.near c.in-Some-place.place c.in-Some-place.ensures in
    omega arith

pub overflow_sub-result-in-Some-place : goal.overflow_sub-result-in-Some-place
overflow_sub-result-in-Some-place c =
    let e = begins_so c.args.members.now c.loop-at.at c.index-members-at.result c.loop-at-test.true c.index-members-at.is c.loop-at.invariant c.args.program.now c.requires.slice c.in-Some.label c.in-Some.behind c.in-Some.ensures.is c.in-Some.ensures.near c.in-Some-place.place c.in-Some-place.ensures in
    omega arith

pub returns-in-Some-place : goal.returns-in-Some-place
returns-in-Some-place c =
    slice_there c.args.members.now c.loop-at.at c.index-members-at.result c.loop-at-test.true c.index-members-at.is c.loop-at.invariant c.args.program.now c.requires.slice c.in-Some.label c.in-Some.behind c.in-Some.ensures.is c.in-Some.ensures.near c.in-Some-place.place c.in-Some-place.ensures

pub returns-in-None-place : goal.returns-in-None-place
returns-in-None-place c =
    absurd (leads_somewhere c.args.members.now c.loop-at.at c.index-members-at.result c.loop-at-test.true c.index-members-at.is c.loop-at.invariant c.args.program.now c.requires.slice c.in-Some.label c.in-Some.behind c.in-Some.ensures.is c.in-Some.ensures.near c.in-None-place.ensures)

pub loop-at-preserved : goal.loop-at-preserved
loop-at-preserved c =
    none_before_next c.args.members.now c.loop-at.at c.index-members-at.result c.loop-at-test.true c.index-members-at.is c.loop-at.invariant c.in-None.ensures.is

pub returns : goal.returns
returns c =
    slice_anywhere c.args.program.now c.args.members.now c.loop-at.at (let ge = c.loop-at-test.false in omega arith) c.loop-at.invariant c.requires.slice
