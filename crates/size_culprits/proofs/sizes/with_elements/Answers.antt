use Rattle.declarations.specs.Tables.{known_at, types_in}
use Rattle.number_rules.proofs.Sizing.{elements_more}
use Rattle.size_culprits.proofs.sizes.with_elements.Goals as goal

pub loop-declarator-preserved : goal.loop-declarator-preserved
loop-declarator-preserved c =
    λ n is. elements_more (types_in c.args.table.now) (known_at c.args.table.now) n c.args.declarators.now c.loop-declarator.declarator-index c.declarator-item.result c.loop-declarator.elements _ _ c.loop-declarator-test.true c.declarator-item.is (c.loop-declarator.invariant n is) c.elements_of.ensures c.saturating_add-elements.ensures
