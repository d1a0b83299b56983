use Rattle.std.proofs.Common.{refl}
use Rattle.meaning.specs.Syntax.{shape_tree}
use Rattle.meaning.specs.Trees.{item_tree}
use Rattle.evaluator.proofs.control.condition_in.Goals as goal

pub returns-in-Some : goal.returns-in-Some
returns-in-Some c =
    let acts = c.in-Some.ensures (item_tree c.args.head.now) c.requires refl in
    c.condition.ensures c.args.program.now (shape_tree c.args.head.now.form.shape.value) acts
