use Rattle.std.proofs.Common.{◌++◌, append_assoc, rules, FitsSigned, to_z, of_z, ap, ◌∙◌}
use Rattle.std.specs.Prelude.{codes}
use Rattle.std.specs.Fmt.{signed_decimal}
use Rattle.std.specs.Int.{w32}
use Rattle.std.proofs.lemmas.Int.{to_z-of_z}
use Rattle.data_culprits.specs.Texts.{outside_text}
use Rattle.data_culprits.proofs.Steps.{then_ok}
use Rattle.data_culprits.proofs.text.add_outside.Goals as goal

pub returns : goal.returns
returns c =
    let old = c.args.bytes.now.items in
    let s = c.args.subscript in
    let l = c.args.lower in
    let u = c.args.upper in
    let fs : FitsSigned w32 s = search rules in
    let fl : FitsSigned w32 l = search rules in
    let fu : FitsSigned w32 u = search rules in
    let first = codes " has the subscript " ++ (signed_decimal (to_z w32 (of_z w32 s)) ++ codes ", and bounds ") in
    let bounds = signed_decimal (to_z w32 (of_z w32 l)) ++ (codes " TO " ++ signed_decimal (to_z w32 (of_z w32 u))) in
    then_ok c.add_bounds.result
    (λ e. e ∙ ap (λ xs. xs ++ bounds) c.in_ok-add_integer.ensures ∙ append_assoc old first bounds
    ∙ ap (λ z. old ++ outside_text z (to_z w32 (of_z w32 l)) (to_z w32 (of_z w32 u))) (to_z-of_z w32 s fs)
    ∙ ap (λ z. old ++ outside_text s z (to_z w32 (of_z w32 u))) (to_z-of_z w32 l fl)
    ∙ ap (λ z. old ++ outside_text s l z) (to_z-of_z w32 u fu)) c.add_bounds.ensures
