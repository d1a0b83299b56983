use Rattle.std.specs.Prelude.{flat_map}
use Rattle.meaning.specs.Syntax.{bounds_tree}
use Rattle.meaning.specs.Typing.{in_bounds}
use Rattle.meaning.specs.Uses.{uses_in}
use Rattle.symbols.proofs.Passes.{joined_more}
use Rattle.name_uses.proofs.statements.add_bounds_uses.Goals as goal

pub loop-bounds-preserved : goal.loop-bounds-preserved
loop-bounds-preserved c =
    joined_more (λ b. flat_map (λ x. uses_in x.expr) (in_bounds b)) bounds_tree c.deref-bounds-items.result.now c.loop-bounds.bounds-index c.bounds-item.result _ _ _ c.loop-bounds-test.true c.bounds-item.is c.loop-bounds.invariant c.in_ok-add_bound_uses.ensures
