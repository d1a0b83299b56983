use Rattle.std.proofs.Common.{◌∙◌}
use Rattle.meaning.specs.Trees.{item_tree}
use Rattle.nesting.specs.Places.{place}
use Rattle.nesting.proofs.Placed.{misplaced_is}
use Rattle.nesting.proofs.order.Order.misplaces.Goals as goal

pub returns : goal.returns
returns c = λ before h. c.misplaces_at.ensures ∙ misplaced_is c.args.self before (item_tree c.args.item.now) (place c.place_of_item.result) c.place_of_item.ensures h
