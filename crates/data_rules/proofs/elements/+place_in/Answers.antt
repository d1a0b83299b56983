use Rattle.std.proofs.Common.{◌+◌, ◌*◌, FitsSigned, map, option_map, rules, sym, ap, ap₂, ◌∙◌}
use Rattle.std.specs.Int.{w32}
use Rattle.std.proofs.lemmas.Int.{to_z-of_z}
use Rattle.meaning.specs.Arrays.{above as above_of}
use Rattle.meaning.specs.Syntax.{expr_tree, exprs_tree}
use Rattle.declarations.specs.Tables.{scope_known, scope_types}
use Rattle.expressions.specs.Dimensions.{dimension}
use Rattle.expressions.specs.Places.{capped}
use Rattle.data_rules.specs.DataPlaces.{place_by, place_known}
use Rattle.data_rules.proofs.DataPlacing.{capped_within}
use Rattle.data_rules.proofs.elements.+place_in.Goals as goal

pub returns-in_ok-place-in-More : goal.returns-in_ok-place-in-More
returns-in_ok-place-in-More t c =
    let scope = c.args.scope.now in
    let types = scope_types scope in
    let known = scope_known scope in
    let d = c.in_ok-dimension-in-More.dimension.now in
    let more = c.in_ok-dimension-in-More.more.now in
    let s = c.in_ok-subscript-in-More.subscript in
    let above = c.in_ok-above-in-More.above in
    let fits : FitsSigned w32 s = search rules in
    let some = c.in_ok-place-in-More.ensures ∙ ap (λ ys. option_map capped (place_by scope more ys)) c.deref.ensures in
    capped_within types known (dimension d) (map dimension more) (expr_tree c.in-More.first) (exprs_tree c.in-More.rest.value) s above c.in_ok-place-in-More.place c.combined.result
    (sym c.in_ok-subscript-in-More.ensures) (sym (c.in_ok-above-in-More.ensures ∙ ap (above_of (dimension d)) (to_z-of_z w32 s fits))) some
    (λ i same. c.combined.ensures i same ∙ ap (λ x. capped (above + x * i)) c.extent.ensures)
    ∙ ap₂ (λ xs ys. option_map capped (place_known types known (map dimension xs) (exprs_tree ys))) (sym c.in_ok-dimension-in-More.ensures.cases.0) (sym c.in-More.is)
