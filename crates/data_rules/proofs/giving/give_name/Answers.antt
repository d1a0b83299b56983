use Rattle.std.proofs.Common.{◌-◌, ◌^◌, map, min, option_map, Some, None, refl, inl, sym, ap, ap₂, ◌∙◌, arith}
use Rattle.std.specs.Prelude.{if◌then◌else◌}
use Rattle.meaning.specs.Arrays.{size}
use Rattle.meaning.specs.Initial.{whole_target}
use Rattle.meaning.specs.Uses.{is_other}
use Rattle.declarations.specs.ArraysKept.{dimensions_of}
use Rattle.data_rules.specs.DataGiving.{symbols_in, stage_of}
use Rattle.data_rules.specs.DataStages.{filled}
use Rattle.data_rules.specs.Filled.{stage_at}
use Rattle.expressions.specs.Dimensions.{dimension}
use Rattle.data_rules.proofs.DataFilling.{filled_variable, filled_whole, same_given, whole_capped}
use Rattle.data_rules.proofs.giving.give_name.Goals as goal

pub returns-in-Some-clause-filled : goal.returns-in-Some-clause-filled
returns-in-Some-clause-filled c =
    let g = c.args.giving.now in
    let r = symbols_in g in
    let n = c.args.name.now in
    let k = c.size_of-size.result in
    let ds = map dimension c.in-Some.dimensions.now.items in
    let array = sym (c.requires n) ∙ ap (option_map dimensions_of) (sym c.in-Some.ensures.value) in
    let sized = c.size_of-size.ensures ∙ ap (λ xs. min (size (map dimension xs)) (2 ^ 64 - 1)) c.deref.ensures in
    let new = stage_at c.give_places.new.filling c.give_places.new.values in
    same_given c.give_places.result (λ b. if b then Some new else None)
    (ap (λ a. filled r.names (whole_target a (is_other r n) n) (stage_of g)) array ∙ filled_whole r.names n ds (stage_of g) array)
    (whole_capped r.names n k (size ds) (stage_of g) new c.give_places.result sized (c.give_places.ensures.given 0 (refl, inl (omega (arith, sized)))) c.give_places.ensures.kept)

pub returns-then-is_other_name-clause-filled : goal.returns-then-is_other_name-clause-filled
returns-then-is_other_name-clause-filled c =
    let g = c.args.giving.now in
    let r = symbols_in g in
    let n = c.args.name.now in
    let none = sym (c.requires n) ∙ ap (option_map dimensions_of) (sym c.in-None.ensures.value) in
    let other = sym c.is_other_name.ensures ∙ c.if-is_other_name.true in
    let new = stage_at c.give_places-then-is_other_name.new.filling c.give_places-then-is_other_name.new.values in
    same_given c.give_places-then-is_other_name.result (λ b. if b then Some new else None)
    (ap₂ (λ a o. filled r.names (whole_target a o n) (stage_of g)) none other ∙ filled_variable r.names n (stage_of g) none)
    (c.give_places-then-is_other_name.ensures.given 0 (refl, inl (omega arith)))
