use Rattle.std.proofs.Common.{refl}
use Rattle.meaning.specs.Syntax.{expr_tree, shape_tree}
use Rattle.meaning.specs.Trees.{item_tree}
use Rattle.program_runs.proofs.Told.{parts_told}
use Rattle.program_runs.proofs.statement.conditional_in.Goals as goal

pub returns-in-Some : goal.returns-in-Some
returns-in-Some c =
    let p = c.args.program.now in
    let s = shape_tree c.args.item.now.form.shape.value in
    let acts = c.in-Some.ensures (item_tree c.args.item.now) c.requires.known refl in
    parts_told p s (expr_tree c.args.condition.now) (shape_tree c.args.statement.now) c.requires.logical c.conditional.result (c.conditional.ensures p s acts)
