use Rattle.std.proofs.Common.{◌≡◌, sym, ap, ◌∙◌, Some}
use Rattle.std.specs.Option.{option_or}
use Rattle.meaning.specs.Surroundings.{loop_variables}
use Rattle.meaning.specs.Syntax.{list_item_tree, list_items_tree, more_items}
use Rattle.meaning.specs.Uses.{is_one_of}
use Rattle.list_culprits.specs.Loops.{implied_in}
use Rattle.list_culprits.proofs.Stepping.{implied_here, implied_more}
use Rattle.list_culprits.proofs.loops.+implied.Goals as goal

pub returns-then-is_inside : goal.returns-then-is_inside
returns-then-is_inside t c =
    let v = c.in-Loop.variable.items in
    let ys = loop_variables (list_items_tree c.in-Loop.inner.value) in
    let is = c.if-is_inside.ensures ∙ ap (λ xs. is_one_of (loop_variables (list_items_tree xs)) c.deref-in-Loop-2.result.now) c.deref-in-Loop.ensures ∙ ap (is_one_of ys) c.deref-in-Loop-2.ensures.value in
    ap Some c.deref-then-is_inside.ensures.value
    ∙ implied_here (is_one_of ys v) v (option_or (implied_in (list_items_tree c.in-Loop.inner.value)) (implied_in (list_items_tree c.in-More.rest.value))) is
    ∙ ap (λ x. implied_in (more_items (list_item_tree x) (list_items_tree c.in-More.rest.value))) (sym c.in-Loop.is)
    ∙ ap (λ xs. implied_in (list_items_tree xs)) (sym c.in-More.is)

pub returns-in-Some : goal.returns-in-Some
returns-in-Some t c =
    let v = c.in-Loop.variable.items in
    let ys = loop_variables (list_items_tree c.in-Loop.inner.value) in
    let later = implied_in (list_items_tree c.in-More.rest.value) in
    let is = c.if-is_inside.ensures ∙ ap (λ xs. is_one_of (loop_variables (list_items_tree xs)) c.deref-in-Loop-2.result.now) c.deref-in-Loop.ensures ∙ ap (is_one_of ys) c.deref-in-Loop-2.ensures.value in
    let inner = c.in-Some.ensures ∙ ap (λ xs. implied_in (list_items_tree xs)) c.deref-in-Loop-3.ensures in
    implied_more (is_one_of ys v) v (implied_in (list_items_tree c.in-Loop.inner.value)) later _ is (ap (λ o. option_or o later) inner)
    ∙ ap (λ x. implied_in (more_items (list_item_tree x) (list_items_tree c.in-More.rest.value))) (sym c.in-Loop.is)
    ∙ ap (λ xs. implied_in (list_items_tree xs)) (sym c.in-More.is)

pub returns-in-None : goal.returns-in-None
returns-in-None t c =
    let v = c.in-Loop.variable.items in
    let ys = loop_variables (list_items_tree c.in-Loop.inner.value) in
    let later = implied_in (list_items_tree c.in-More.rest.value) in
    let is = c.if-is_inside.ensures ∙ ap (λ xs. is_one_of (loop_variables (list_items_tree xs)) c.deref-in-Loop-2.result.now) c.deref-in-Loop.ensures ∙ ap (is_one_of ys) c.deref-in-Loop-2.ensures.value in
    let inner = c.in-None.ensures ∙ ap (λ xs. implied_in (list_items_tree xs)) c.deref-in-Loop-3.ensures in
    let behind = c.implied-in-None.ensures ∙ ap (λ xs. implied_in (list_items_tree xs)) c.deref-in-None.ensures in
    implied_more (is_one_of ys v) v (implied_in (list_items_tree c.in-Loop.inner.value)) later _ is (behind ∙ ap (λ o. option_or o later) inner)
    ∙ ap (λ x. implied_in (more_items (list_item_tree x) (list_items_tree c.in-More.rest.value))) (sym c.in-Loop.is)
    ∙ ap (λ xs. implied_in (list_items_tree xs)) (sym c.in-More.is)
