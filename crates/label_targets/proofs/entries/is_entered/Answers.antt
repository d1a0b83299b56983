use Rattle.std.proofs.Common.{ap, ◌∙◌, arith}
use Rattle.label_targets.specs.Entries.{is_number}
use Rattle.label_targets.proofs.Labelled.{entered_is, none_entered}
use Rattle.label_targets.proofs.entries.is_entered.Goals as goal

pub returns-in-Some : goal.returns-in-Some
returns-in-Some c =
    ap (λ o. is_number o c.args.behind) c.in-Some.ensures.exact ∙ entered_is c.args.label c.args.members.now c.args.place c.index-members-place.result c.args.behind (let lt = c.if-place-members.false in omega arith) c.index-members-place.is

pub returns-in-None : goal.returns-in-None
returns-in-None c =
    ap (λ o. is_number o c.args.behind) c.in-None.ensures.exact ∙ entered_is c.args.label c.args.members.now c.args.place c.index-members-place.result c.args.behind (let lt = c.if-place-members.false in omega arith) c.index-members-place.is

pub returns-then-place-members : goal.returns-then-place-members
returns-then-place-members c = none_entered c.args.label c.args.members.now c.args.place c.args.behind c.if-place-members.true
