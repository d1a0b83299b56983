use Rattle.meaning.specs.Syntax.{bounds_tree}
use Rattle.meaning.specs.Typing.{in_bounds}
use Rattle.symbols.proofs.Passes.{joined_more}
use Rattle.expectations.proofs.expected.add_array.Goals as goal

pub loop-bounds-preserved : goal.loop-bounds-preserved
loop-bounds-preserved c =
    joined_more in_bounds bounds_tree c.deref-bounds-items.result.now c.loop-bounds.bounds-index c.bounds-item.result _ _ _ c.loop-bounds-test.true c.bounds-item.is c.loop-bounds.invariant c.in_ok-add_bounds.ensures
