use Rattle.std.proofs.Common.{rules, ◌≡◌, get_or, pos}
use Rattle.expressions.specs.declared.dimension.Dimension.{Dimension}
use Rattle.expressions.specs.Dimensions.{dimension}
use Rattle.expressions.proofs.Capped.{size_more, map_more}
use Rattle.expressions.proofs.place.ElementAddress.size.Goals as goal

pub loop-one-preserved : goal.loop-one-preserved
loop-one-preserved c =
    let ds = c.args.self.left.now in
    let i = c.loop-one.one-index in
    let x : Dimension = get_or ds i (record { lower = pos 0; upper = pos 0 }) in
    let is : x ≡ get_or ds i x = search rules in
    size_more _ _ (dimension x) c.loop-one.found _ _ c.loop-one.invariant c.extent.ensures c.saturating_mul-found.ensures (map_more dimension ds i x c.loop-one-test.true is)
