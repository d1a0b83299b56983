use Rattle.std.proofs.Common.{◌++◌, append_assoc, rules, FitsSigned, to_z, of_z, sym, ap, ◌∙◌}
use Rattle.std.specs.Int.{w32}
use Rattle.std.proofs.lemmas.Int.{to_z-of_z}
use Rattle.data_culprits.specs.Texts.{outside_text, told_text}
use Rattle.data_culprits.specs.Told.{told_at}
use Rattle.data_culprits.proofs.Steps.{then_ok}
use Rattle.data_culprits.proofs.text.add_data_text.Goals as goal

pub returns-in_ok-extend_from_slice-in-Outside : goal.returns-in_ok-extend_from_slice-in-Outside
returns-in_ok-extend_from_slice-in-Outside c =
    let old = c.args.bytes.now.items in
    let n = c.in-Outside.name.now in
    let s = c.in-Outside.subscript in
    let l = c.in-Outside.lower in
    let u = c.in-Outside.upper in
    let fs : FitsSigned w32 s = search rules in
    let fl : FitsSigned w32 l = search rules in
    let fu : FitsSigned w32 u = search rules in
    let text = outside_text (to_z w32 (of_z w32 s)) (to_z w32 (of_z w32 l)) (to_z w32 (of_z w32 u)) in
    then_ok c.add_outside.result
    (λ e. e ∙ ap (λ xs. xs ++ text) c.in_ok-extend_from_slice-in-Outside.ensures.items ∙ append_assoc old n text
    ∙ ap (λ z. old ++ (n ++ outside_text z (to_z w32 (of_z w32 l)) (to_z w32 (of_z w32 u)))) (to_z-of_z w32 s fs)
    ∙ ap (λ z. old ++ (n ++ outside_text s z (to_z w32 (of_z w32 u)))) (to_z-of_z w32 l fl)
    ∙ ap (λ z. old ++ (n ++ outside_text s l z)) (to_z-of_z w32 u fu)
    ∙ ap (λ k. old ++ told_text (told_at k)) (sym c.in-Outside.is)) c.add_outside.ensures

pub returns-in-Unserved : goal.returns-in-Unserved
returns-in-Unserved c =
    then_ok c.add_behind.result (λ e. e ∙ ap (λ k. c.args.bytes.now.items ++ told_text (told_at k)) (sym c.in-Unserved.is)) c.add_behind.ensures

pub returns-in-Unmatched : goal.returns-in-Unmatched
returns-in-Unmatched c =
    then_ok c.add_name-in-Unmatched.result (λ e. e ∙ ap (λ k. c.args.bytes.now.items ++ told_text (told_at k)) (sym c.in-Unmatched.is)) c.add_name-in-Unmatched.ensures

pub returns-in-Counter : goal.returns-in-Counter
returns-in-Counter c =
    then_ok c.add_name-in-Counter.result (λ e. e ∙ ap (λ k. c.args.bytes.now.items ++ told_text (told_at k)) (sym c.in-Counter.is)) c.add_name-in-Counter.ensures

pub returns-in-Trips : goal.returns-in-Trips
returns-in-Trips c =
    then_ok c.add_name-in-Trips.result (λ e. e ∙ ap (λ k. c.args.bytes.now.items ++ told_text (told_at k)) (sym c.in-Trips.is)) c.add_name-in-Trips.ensures

pub returns-in-Again : goal.returns-in-Again
returns-in-Again c =
    then_ok c.add_name-in-Again.result (λ e. e ∙ ap (λ k. c.args.bytes.now.items ++ told_text (told_at k)) (sym c.in-Again.is)) c.add_name-in-Again.ensures
