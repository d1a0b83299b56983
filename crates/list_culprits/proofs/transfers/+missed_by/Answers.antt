use Rattle.std.proofs.Common.{◌≡◌, List, [], ◌∷◌, sym, ap, subst, ◌∙◌}
use Rattle.std.specs.Result.{IfOk}
use Rattle.meaning.specs.Syntax.{shape_tree}
use Rattle.list_culprits.specs.Listed.{reach_at, unit_at}
use Rattle.list_culprits.specs.Told.{tell}
use Rattle.list_culprits.specs.Transfers.{first_told, missed_at, targets_of}
use Rattle.list_culprits.proofs.transfers.+missed_by.Goals as goal

pub returns-in-GoTo : goal.returns-in-GoTo
returns-in-GoTo t c =
    let f = missed_at (unit_at c.args.search.now) (reach_at c.args.search.now) in
    subst (λ ls. IfOk c.missed_alone.result (λ k. tell k ≡ first_told f ls)) (ap (λ l. l ∷ []) c.deref.ensures.value ∙ ap (λ s. targets_of (shape_tree s)) (sym c.in-GoTo.is)) c.missed_alone.ensures

pub returns-in-ArithmeticIf : goal.returns-in-ArithmeticIf
returns-in-ArithmeticIf t c =
    let f = missed_at (unit_at c.args.search.now) (reach_at c.args.search.now) in
    let a = c.in-ArithmeticIf.negative.items in
    let b = c.in-ArithmeticIf.zero.items in
    let second = c.deref-in-ArithmeticIf-2.result.now in
    let third = c.deref-in-ArithmeticIf-3.result.now in
    subst (λ ls. IfOk c.missed_of_three.result (λ k. tell k ≡ first_told f ls)) (ap (λ l. l ∷ (second ∷ (third ∷ []))) c.deref-in-ArithmeticIf.ensures.value ∙ ap (λ l. a ∷ (l ∷ (third ∷ []))) c.deref-in-ArithmeticIf-2.ensures.value ∙ ap (λ l. a ∷ (b ∷ (l ∷ []))) c.deref-in-ArithmeticIf-3.ensures.value ∙ ap (λ s. targets_of (shape_tree s)) (sym c.in-ArithmeticIf.is)) c.missed_of_three.ensures
