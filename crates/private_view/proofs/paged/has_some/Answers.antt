use Rattle.std.proofs.Common.{◌<◌, ◌^◌, sym, ◌∙◌, rules}
use Rattle.private_view.proofs.Marked.{some_marked, none_marked, not_zero, is_zero}
use Rattle.private_view.proofs.paged.has_some.Goals as goal

pub returns-in-Some : goal.returns-in-Some
returns-in-Some c =
    let words = c.args.words.now in
    let page = c.args.page in
    let word = c.in-Some.word.now in
    let found = c.in-Some.ensures.lookup.3.1 0 in
    let small : word < 2 ^ 64 = search rules in
    (λ t. some_marked words page word (sym found) small (not_zero word t), λ h. is_zero word (λ none. none_marked words page (sym found ∙ none) h))
