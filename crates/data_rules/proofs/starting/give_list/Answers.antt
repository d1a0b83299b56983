use Rattle.std.proofs.Common.{Some, None, ap, ◌∙◌}
use Rattle.std.specs.Prelude.{if◌then◌else◌}
use Rattle.meaning.specs.Initial.{and_also}
use Rattle.data_rules.specs.DataGiving.{stage_of}
use Rattle.data_rules.specs.DataSets.{if_used_up}
use Rattle.data_rules.proofs.DataSetsMore.{used_up_given}
use Rattle.data_rules.proofs.starting.give_list.Goals as goal

pub returns-then-not-given : goal.returns-then-not-given
returns-then-not-given c =
    ap (λ o. and_also o if_used_up) (c.in_ok-given.ensures.filled ∙ ap (λ b. if b then Some (stage_of c.give_items.new.giving) else None) c.if-not-given.true)

pub returns : goal.returns
returns c =
    let g = stage_of c.give_items.new.giving in
    used_up_given c.is_used_up.result _ g (c.in_ok-given.ensures.filled ∙ ap (λ b. if b then Some g else None) c.if-not-given.false) c.is_used_up.ensures
