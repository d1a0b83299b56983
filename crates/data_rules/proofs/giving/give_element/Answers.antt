use Rattle.std.proofs.Common.{map, option_map, Some, None, inr, sym, ap, ◌∙◌, arith}
use Rattle.std.specs.Prelude.{if◌then◌else◌}
use Rattle.meaning.specs.Initial.{element_target}
use Rattle.meaning.specs.Syntax.{exprs_tree}
use Rattle.declarations.specs.ArraysKept.{dimensions_of}
use Rattle.expressions.specs.Dimensions.{dimension}
use Rattle.expressions.specs.Places.{capped}
use Rattle.data_rules.specs.DataGiving.{known_there, symbols_in, stage_of}
use Rattle.data_rules.specs.DataPlaces.{place_known}
use Rattle.data_rules.specs.DataStages.{filled}
use Rattle.data_rules.specs.Filled.{stage_at}
use Rattle.data_rules.proofs.DataFilling.{element_given, same_given}
use Rattle.data_rules.proofs.giving.give_element.Goals as goal

pub returns-in-Some-place_in-clause-filled : goal.returns-in-Some-place_in-clause-filled
returns-in-Some-place_in-clause-filled c =
    let g = c.args.giving.now in
    let r = symbols_in g in
    let n = c.args.name.now in
    let k = known_there g in
    let es = exprs_tree c.args.subscripts.now in
    let ds = map dimension c.in-Some.dimensions.now.items in
    let array = sym (c.requires n) ∙ ap (option_map dimensions_of) (sym c.in-Some.ensures.value) in
    let there = c.in-Some-place_in.ensures ∙ ap (λ xs. option_map capped (place_known r.names.types k (map dimension xs) es)) c.deref.ensures in
    let new = stage_at c.give_places.new.filling c.give_places.new.values in
    same_given c.give_places.result (λ b. if b then Some new else None)
    (ap (λ a. filled r.names (element_target r.names.types k a n es) (stage_of g)) array)
    (element_given r.names k n ds es (stage_of g) array new c.give_places.result c.in-Some-place_in.place (λ i same. c.give_places.ensures.given i (same, inr (omega arith))) there)
