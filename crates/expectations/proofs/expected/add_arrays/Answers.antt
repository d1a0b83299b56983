use Rattle.std.specs.Prelude.{flat_map}
use Rattle.meaning.specs.Syntax.{declarator_tree}
use Rattle.meaning.specs.Typing.{in_bounds}
use Rattle.symbols.proofs.Passes.{joined_more}
use Rattle.expectations.proofs.expected.add_arrays.Goals as goal

pub loop-declarator-preserved : goal.loop-declarator-preserved
loop-declarator-preserved c =
    joined_more (λ d. flat_map in_bounds d.bounds) declarator_tree c.args.declarators.now c.loop-declarator.declarator-index c.declarator-item.result _ _ _ c.loop-declarator-test.true c.declarator-item.is c.loop-declarator.invariant c.in_ok-add_array.ensures
