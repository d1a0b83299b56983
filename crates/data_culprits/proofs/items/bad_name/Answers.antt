use Rattle.std.proofs.Common.{option_map, refl, sym, ap, ap₂, ◌∙◌}
use Rattle.declarations.specs.ArraysKept.{dimensions_of}
use Rattle.data_rules.specs.DataGiving.{stage_of, symbols_in}
use Rattle.data_culprits.specs.Lists.{to_name}
use Rattle.data_culprits.specs.Outcomes.{outcome_of}
use Rattle.data_culprits.specs.Told.{tell}
use Rattle.data_culprits.proofs.Steps.{same_outcome}
use Rattle.data_culprits.proofs.items.bad_name.Goals as goal

pub returns-then-is_other_name-clause-told : goal.returns-then-is_other_name-clause-told
returns-then-is_other_name-clause-told c =
    let g = c.args.giving.now in
    let r = symbols_in g in
    let n = c.args.name.now in
    let none = sym (c.requires n) ∙ ap (option_map dimensions_of) (sym c.in-None.ensures.value) in
    let other = sym c.is_other_name.ensures ∙ c.if-is_other_name.true in
    same_outcome c.bad_place.result (λ o. outcome_of (stage_of c.bad_place.new.giving) (tell o))
    (ap₂ (λ a b. to_name r.names.types a b n (stage_of g)) none other)
    (c.bad_place.ensures.told 0 refl)
