use Rattle.std.proofs.Common.{refl}
use Rattle.meaning.specs.Syntax.{shape_tree}
use Rattle.meaning.specs.Trees.{item_tree}
use Rattle.program_runs.proofs.statement.list_in.Goals as goal

pub returns-in-Some : goal.returns-in-Some
returns-in-Some c =
    let acts = c.in-Some.ensures (item_tree c.args.item.now) c.requires.known refl in
    c.list.ensures c.args.program.now (shape_tree c.args.item.now.form.shape.value) acts
