use Rattle.meaning.specs.Syntax.{expr_tree}
use Rattle.lowering.proofs.Arrays.{single, stored}
use Rattle.lowering.proofs.items.value_code.Goals as goal

pub whole_array-requires : goal.whole_array-requires
whole_array-requires c =
    stored c.args.program.now (expr_tree c.args.item.now) c.in-Some.cells c.in-Some.ensures c.requires

pub code_in-requires : goal.code_in-requires
code_in-requires c = single c.args.program.now (expr_tree c.args.item.now) c.in-None.ensures c.requires
