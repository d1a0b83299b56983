use Rattle.std.proofs.Common.{◌≡◌, sym, ap, ◌∙◌}
use Rattle.std.specs.List.{find}
use Rattle.std.specs.Option.{option_or}
use Rattle.meaning.specs.Surroundings.{loop_variables}
use Rattle.meaning.specs.Syntax.{list_item_tree, list_items_tree, more_items}
use Rattle.list_culprits.proofs.Stepping.{variables_more}
use Rattle.list_culprits.proofs.loops.+first_variable.Goals as goal

pub returns-in-Some : goal.returns-in-Some
returns-in-Some g t c =
    let test = g.T.NameTest.passes c.args.test.now in
    let ys = loop_variables (list_items_tree c.in-Loop.inner.value) in
    let zs = loop_variables (list_items_tree c.in-More.rest.value) in
    let inner = c.in-Some.ensures ∙ ap (λ xs. find test (loop_variables (list_items_tree xs))) c.deref-in-Loop-2.ensures in
    variables_more test c.in-Loop.variable.items ys zs _ (c.if-is.ensures ∙ ap test c.deref-in-Loop.ensures.value) (ap (λ o. option_or o (find test zs)) inner)
    ∙ ap (λ x. find test (loop_variables (more_items (list_item_tree x) (list_items_tree c.in-More.rest.value)))) (sym c.in-Loop.is)
    ∙ ap (λ xs. find test (loop_variables (list_items_tree xs))) (sym c.in-More.is)

pub returns-in-None : goal.returns-in-None
returns-in-None g t c =
    let test = g.T.NameTest.passes c.args.test.now in
    let ys = loop_variables (list_items_tree c.in-Loop.inner.value) in
    let zs = loop_variables (list_items_tree c.in-More.rest.value) in
    let inner = c.in-None.ensures ∙ ap (λ xs. find test (loop_variables (list_items_tree xs))) c.deref-in-Loop-2.ensures in
    let later = c.first_variable-in-None.ensures ∙ ap (λ xs. find test (loop_variables (list_items_tree xs))) c.deref-in-None.ensures in
    variables_more test c.in-Loop.variable.items ys zs _ (c.if-is.ensures ∙ ap test c.deref-in-Loop.ensures.value) (later ∙ ap (λ o. option_or o (find test zs)) inner)
    ∙ ap (λ x. find test (loop_variables (more_items (list_item_tree x) (list_items_tree c.in-More.rest.value)))) (sym c.in-Loop.is)
    ∙ ap (λ xs. find test (loop_variables (list_items_tree xs))) (sym c.in-More.is)
