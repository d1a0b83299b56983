use Rattle.std.proofs.Common.{◌≡◌, [], sym, ap, subst, ◌∙◌, Some, None}
use Rattle.std.specs.Result.{IfOk}
use Rattle.meaning.specs.Trees.{nested}
use Rattle.symbols.specs.Listed.{trees_at}
use Rattle.culprits.specs.Culprits.{item_culprit_in}
use Rattle.culprits.specs.Placing.{at_line, item_line}
use Rattle.culprits.specs.Told.{tell, told_at}
use Rattle.culprits.proofs.Asking.{whole}
use Rattle.culprits.proofs.asked.culprit_by.Goals as goal

pub list_culprit-requires : goal.list_culprit-requires
list_culprit-requires c = ap trees_at c.requires.same ∙ c.requires.whole

pub returns-in-Some : goal.returns-in-Some
returns-in-Some c =
    let all = trees_at c.args.symbols.now.items.now in
    whole c.args.rule c.args.line (nested c.args.unit.now) all (Some (told_at c.in-Some.culprit)) (ap trees_at c.requires.same ∙ c.requires.whole) (ap tell (sym c.in-Some.is) ∙ c.in_ok-culprit.ensures ∙ ap (λ xs. at_line item_line (item_culprit_in c.args.rule all) c.args.line [] (trees_at xs)) (sym c.requires.same))

pub returns-in-None : goal.returns-in-None
returns-in-None c =
    let all = trees_at c.args.symbols.now.items.now in
    subst (λ m. IfOk c.list_culprit.result (λ k. tell k ≡ m)) (whole c.args.rule c.args.line (nested c.args.unit.now) all None (ap trees_at c.requires.same ∙ c.requires.whole) (ap tell (sym c.in-None.is) ∙ c.in_ok-culprit.ensures ∙ ap (λ xs. at_line item_line (item_culprit_in c.args.rule all) c.args.line [] (trees_at xs)) (sym c.requires.same))) c.list_culprit.ensures
