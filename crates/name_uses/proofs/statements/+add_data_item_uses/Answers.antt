use Rattle.std.proofs.Common.{◌++◌, ap, ap₂, ◌∙◌}
use Rattle.meaning.specs.Syntax.{list_items_tree}
use Rattle.meaning.specs.Uses.{data_item_uses, without}
use Rattle.name_uses.specs.UsesAt.{uses_at}
use Rattle.name_uses.proofs.Reading.{data_loop}
use Rattle.name_uses.proofs.statements.+add_data_item_uses.Goals as goal

pub returns-in_ok-add_data_item_uses-in-Loop-2 : goal.returns-in_ok-add_data_item_uses-in-Loop-2
returns-in_ok-add_data_item_uses-in-Loop-2 t c =
    data_loop c.args.items.now c.in-More.item _ _ _ _ c.in-Loop.variable c.in-Loop.limits (uses_at c.args.uses.now.items) _ _ _ _ c.in-More.is c.in-Loop.is
    (c.in_ok-add_data_item_uses-in-Loop.ensures ∙ ap (λ us. uses_at us ++ data_item_uses (list_items_tree c.deref-in-Loop.result.now)) c.new-inner.ensures.items ∙ ap (λ xs. data_item_uses (list_items_tree xs)) c.deref-in-Loop.ensures)
    (c.in_ok-add_passing-in-Loop.ensures ∙ ap₂ (λ us v. uses_at c.args.uses.now.items ++ without v (uses_at us)) c.deref-in-Loop-2.ensures.value c.deref-in-Loop-3.ensures.value)
    c.in_ok-add_limit_uses-in-Loop.ensures
    (c.in_ok-add_data_item_uses-in-Loop-2.ensures ∙ ap (λ xs. uses_at c.add_limit_uses.new.uses.items ++ data_item_uses (list_items_tree xs)) c.deref-in-Loop-4.ensures)
