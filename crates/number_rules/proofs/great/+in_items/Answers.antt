use Rattle.std.proofs.Common.{◌||◌, refl, sym, ap, ap₂, ◌∙◌}
use Rattle.std.specs.List.{list_any}
use Rattle.meaning.specs.Syntax.{list_items_tree}
use Rattle.meaning.specs.Typing.{in_items}
use Rattle.number_rules.specs.GreatNumbers.{has_great}
use Rattle.number_rules.proofs.GreatParts.{loop_any}
use Rattle.number_rules.proofs.great.+in_items.Goals as goal

pub returns-then-in_limits : goal.returns-then-in_limits
returns-then-in_limits t c =
    let behind = list_any has_great (in_items c.args.of_data (list_items_tree c.in-More.rest.value)) in
    ap₂ (λ a b. a || (b || behind)) (sym c.if-in_items.false) (sym c.if-in_limits.true)
    ∙ loop_any c.args.of_data has_great c.args.items.now c.in-More.item _ c.in-More.rest.value _ c.in-Loop.items.value c.in-Loop.variable c.in-Loop.limits _ _ behind c.in-More.is c.in-Loop.is (c.in_items-in-Loop.ensures ∙ ap (λ xs. list_any has_great (in_items c.args.of_data (list_items_tree xs))) c.deref-in-Loop.ensures) c.in_limits.ensures refl

pub returns-else-in_limits : goal.returns-else-in_limits
returns-else-in_limits t c =
    let rest = c.in_items-in-Loop-2.result in
    ap₂ (λ a b. a || (b || rest)) (sym c.if-in_items.false) (sym c.if-in_limits.false)
    ∙ loop_any c.args.of_data has_great c.args.items.now c.in-More.item _ c.in-More.rest.value _ c.in-Loop.items.value c.in-Loop.variable c.in-Loop.limits _ _ rest c.in-More.is c.in-Loop.is (c.in_items-in-Loop.ensures ∙ ap (λ xs. list_any has_great (in_items c.args.of_data (list_items_tree xs))) c.deref-in-Loop.ensures) c.in_limits.ensures (c.in_items-in-Loop-2.ensures ∙ ap (λ xs. list_any has_great (in_items c.args.of_data (list_items_tree xs))) c.deref-in-Loop-2.ensures)
