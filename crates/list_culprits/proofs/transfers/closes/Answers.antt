use Rattle.std.proofs.Common.{◌&&◌, ap, ◌∙◌}
use Rattle.meaning.specs.Characters.{number_of}
use Rattle.meaning.specs.LabelRules.{has_label}
use Rattle.meaning.specs.Trees.{item_tree}
use Rattle.list_culprits.proofs.transfers.closes.Goals as goal

pub returns-then-is_closed : goal.returns-then-is_closed
returns-then-is_closed c = λ before known.
    c.is_at.ensures ∙ ap (λ b. b && has_label (number_of c.args.label.now) (item_tree c.args.item.now)) (c.if-is_closed.ensures before known)

pub returns-else-is_closed : goal.returns-else-is_closed
returns-else-is_closed c = λ before known.
    c.if-is_closed.false ∙ ap (λ b. b && has_label (number_of c.args.label.now) (item_tree c.args.item.now)) (c.if-is_closed.ensures before known)
