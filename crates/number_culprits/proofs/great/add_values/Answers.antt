use Rattle.std.specs.Prelude.{flat_map}
use Rattle.meaning.specs.NumberRules.{in_data_value}
use Rattle.meaning.specs.Syntax.{data_value_tree}
use Rattle.symbols.proofs.Passes.{joined_more}
use Rattle.number_culprits.proofs.great.add_values.Goals as goal

pub loop-value-preserved : goal.loop-value-preserved
loop-value-preserved c =
    joined_more in_data_value data_value_tree c.args.values.now c.loop-value.value-index c.value-item.result _ _ _ c.loop-value-test.true c.value-item.is c.loop-value.invariant c.in_ok-add_value.ensures
