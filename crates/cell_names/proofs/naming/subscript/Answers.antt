use Rattle.std.proofs.Common.{arith}
use Rattle.std.proofs.lemmas.Int.{ints}
use Rattle.cell_names.proofs.Elements.{within_bounds}
use Rattle.cell_names.proofs.naming.subscript.Goals as goal

pub overflow_cast-result : goal.overflow_cast-result
overflow_cast-result c =
    let bound = within_bounds c.args.dimension.lower c.args.dimension.upper c.args.above c.requires in omega (arith, ints, bound)

pub overflow_add-result : goal.overflow_add-result
overflow_add-result c =
    let bound = within_bounds c.args.dimension.lower c.args.dimension.upper c.args.above c.requires in omega (arith, ints, bound)

pub overflow_cast-result-2 : goal.overflow_cast-result-2
overflow_cast-result-2 c =
    let bound = within_bounds c.args.dimension.lower c.args.dimension.upper c.args.above c.requires in omega (arith, ints, bound)
