use Rattle.declarations.specs.ArraysKept.{arrays_kept}
use Rattle.declarations.specs.Tables.{known_at, types_in}
use Rattle.declarations.proofs.ArraysBy.{declarators_more, or_none}
use Rattle.declarations.proofs.arrays.add_arrays.Goals as goal

pub loop-declarator-init : goal.loop-declarator-init
loop-declarator-init c = λ n. or_none (arrays_kept c.args.arrays.now n)

pub loop-declarator-preserved : goal.loop-declarator-preserved
loop-declarator-preserved c =
    λ n. declarators_more (types_in c.args.table.now) (known_at c.args.table.now) n c.args.declarators.now c.loop-declarator.declarator-index c.declarator-item.result _ _ _ c.loop-declarator-test.true c.declarator-item.is (c.loop-declarator.invariant n) (c.in_ok-add_array.ensures n)
