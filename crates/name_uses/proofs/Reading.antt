-- What statements have values of.
use Rattle.std.proofs.Common.{◌≡◌, Bool, true, false, List, ◌++◌, append_assoc, refl, sym, ap, ◌∙◌}
use Rattle.meaning.specs.declared.syntax.ListItem.{ListItem}
use Rattle.meaning.specs.declared.syntax.ListItem.TheVariants as list_items
use Rattle.meaning.specs.declared.syntax.ListItems.{ListItems}
use Rattle.meaning.specs.declared.syntax.ListItems.TheVariants as lists
use Rattle.meaning.specs.Syntax.{limits_tree, list_items_tree, list_item_tree, more_items}
use Rattle.meaning.specs.Uses.{Use, data_item_uses, if_defines, limit_uses, reading, without}

-- a statement without dummies uses the same, whether it is a statement function's or not
pub either_reads : (defines : Bool) (ss us : List Use) → (if_defines defines (reading us) (record { sets = ss; reads = us })).reads ≡ us
either_reads true ss us = refl
either_reads false ss us = refl

-- an implied DO in a DATA statement, and the items behind it
pub data_loop : (items : ListItems) (item : ListItem) (p : _) (rest : ListItems) (q : _) (ys : ListItems) (variable : _) (limits : _) (old inner passed limited final : List Use) → items ≡ lists.More' item p rest → item ≡ list_items.Loop' q ys variable limits → inner ≡ data_item_uses (list_items_tree ys) → passed ≡ old ++ without variable.items inner → limited ≡ passed ++ limit_uses (limits_tree limits) → final ≡ limited ++ data_item_uses (list_items_tree rest) → final ≡ old ++ data_item_uses (list_items_tree items)
data_loop items item p rest q ys variable limits old inner passed limited final more loop e1 e2 e3 e4 =
    let here = without variable.items (data_item_uses (list_items_tree ys)) in
    let bounds = limit_uses (limits_tree limits) in
    let behind = data_item_uses (list_items_tree rest) in
    e4 ∙ ap (λ us. us ++ behind) (e3 ∙ ap (λ us. us ++ bounds) (e2 ∙ ap (λ us. old ++ without variable.items us) e1))
    ∙ append_assoc (old ++ here) bounds behind ∙ append_assoc old here (bounds ++ behind)
    ∙ ap (λ x. old ++ data_item_uses (more_items (list_item_tree x) (list_items_tree rest))) (sym loop)
    ∙ ap (λ xs. old ++ data_item_uses (list_items_tree xs)) (sym more)
