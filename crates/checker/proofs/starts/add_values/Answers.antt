use Rattle.std.proofs.Common.{◌≡◌, ◌+◌, ◌++◌, ◌∷◌, [], append_assoc, w32, sym, ap, ap₂, ◌∙◌, arith}
use Rattle.std.proofs.lemmas.Int.{to_z-of_z}
use Rattle.std.proofs.lemmas.List.FromFn.{map-range_with_len_more}
use Rattle.data_rules.specs.Slots.{slot_at}
use Rattle.checker.specs.Given.{number_given, values_in}
use Rattle.checker.proofs.starts.add_values.Goals as goal

pub loop-place-preserved : goal.loop-place-preserved
loop-place-preserved c =
    let g = slot_at c.args.slots.now in
    let i = c.loop-place.place in
    let old = c.args.starts.now.items in
    let same : 0 + i ≡ i = omega arith in
    c.in_ok-push.ensures.items
    ∙ ap₂ (λ xs x. xs ++ x ∷ []) c.loop-place.invariant (to_z-of_z w32 c.number_of.result (record { sfits = c.number_of.type_inv }) ∙ c.number_of.ensures ∙ ap number_given c.slot_of.ensures)
    ∙ append_assoc old (values_in g i) (number_given (g i) ∷ [])
    ∙ ap (λ ys. old ++ ys) (sym (map-range_with_len_more (λ j. number_given (g j)) 0 i i same))
