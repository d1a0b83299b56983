use Rattle.std.proofs.Common.{refl}
use Rattle.meaning.specs.Syntax.{shape_tree}
use Rattle.meaning.specs.Trees.{item_tree}
use Rattle.evaluator.proofs.statement.run_item.Goals as goal

pub run_action-requires-clause-known : goal.run_action-requires-clause-known
run_action-requires-clause-known g c =
    record { statement = shape_tree c.args.item.now.form.shape.value; acts = c.in-Some.ensures (item_tree c.args.item.now) c.requires.known refl }

pub returns-in-Some-clause-does : goal.returns-in-Some-clause-does
returns-in-Some-clause-does g c =
    c.run_action.ensures.does (shape_tree c.args.item.now.form.shape.value) (c.in-Some.ensures (item_tree c.args.item.now) c.requires.known refl) c.requires.quiet
