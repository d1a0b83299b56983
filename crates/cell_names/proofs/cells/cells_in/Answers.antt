use Rattle.std.proofs.Common.{rules, ◌≡◌, get_or, pos}
use Rattle.expressions.specs.declared.dimension.Dimension.{Dimension}
use Rattle.cell_names.proofs.Elements.{size_more}
use Rattle.cell_names.proofs.cells.cells_in.Goals as goal

pub loop-one-preserved : goal.loop-one-preserved
loop-one-preserved c =
    let ds = c.args.dimensions.now in
    let i = c.loop-one.one-index in
    let x : Dimension = get_or ds i (record { lower = pos 0; upper = pos 0 }) in
    let is : x ≡ get_or ds i x = search rules in
    size_more ds i x c.loop-one.found _ _ c.loop-one-test.true is c.loop-one.invariant c.extent.ensures c.in_ok-found.ensures
