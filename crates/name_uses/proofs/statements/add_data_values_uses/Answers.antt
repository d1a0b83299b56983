use Rattle.meaning.specs.Syntax.{data_value_tree}
use Rattle.meaning.specs.Uses.{data_value_uses}
use Rattle.symbols.proofs.Passes.{joined_more}
use Rattle.name_uses.proofs.statements.add_data_values_uses.Goals as goal

pub loop-value-preserved : goal.loop-value-preserved
loop-value-preserved c =
    joined_more (data_value_uses) data_value_tree c.args.values.now c.loop-value.value-index c.value-item.result _ _ _ c.loop-value-test.true c.value-item.is c.loop-value.invariant c.in_ok-add_data_value_uses.ensures
